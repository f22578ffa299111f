-- `parse_line` meets its contract, at each of its ways out. Assumes nothing.
use borrow.Author.Rules.{rules}
use Rattle.zigbee_types.proofs.Scans.{said_yes}
use Rattle.hex_lines.proofs.Request.{request_long, request_rest, told_other, told_full, told_room, told_request}
use Rattle.hex_lines.proofs.parse_line.Goals as goal

ruleset laws = (rules, said_yes, request_long, request_rest, told_other, told_full, told_room, told_request)

pub returns-then-not-is_request : goal.returns-then-not-is_request
returns-then-not-is_request c = search laws

pub slice_bounds-digits-count : goal.slice_bounds-digits-count
slice_bounds-digits-count c = search laws

pub slice_bounds-digits-start : goal.slice_bounds-digits-start
slice_bounds-digits-start c = search laws

pub returns-then-payload-digits : goal.returns-then-payload-digits
returns-then-payload-digits c = search laws

pub returns : goal.returns
returns c = search laws

pub put_payload-length-requires-clause-digits_value : goal.put_payload-length-requires-clause-digits_value
put_payload-length-requires-clause-digits_value c = search laws

pub put_payload-length-requires-clause-digits_in_bounds : goal.put_payload-length-requires-clause-digits_in_bounds
put_payload-length-requires-clause-digits_in_bounds c = search laws
