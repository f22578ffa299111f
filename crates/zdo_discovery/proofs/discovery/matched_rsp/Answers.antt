-- `matched_rsp` meets its contract: the list stands whole in its places, and is handed on. Assumes nothing.
use borrow.Author.Rules.{rules}
use Rattle.zdo_discovery.proofs.Places.{matched_within, matched_long, matched_replied}
use Rattle.zdo_discovery.proofs.discovery.matched_rsp.Goals as goal

ruleset laws = (rules, matched_replied)

pub slice_bounds-matches-end : goal.slice_bounds-matches-end
slice_bounds-matches-end c = matched_within _ _ _ c.args.tables.good c.matching_endpoints_checked-matched.ensures (search rules)

pub slice_bounds-match_desc_rsp-end : goal.slice_bounds-match_desc_rsp-end
slice_bounds-match_desc_rsp-end c = matched_long _ _ _ c.args.tables.good c.matching_endpoints_checked-matched.ensures (search rules)

pub returns : goal.returns
returns c = search laws
