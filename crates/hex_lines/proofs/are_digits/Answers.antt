-- `are_digits` meets its contract: each character was asked. Assumes nothing.
use Rattle.std.proofs.Common.{refl, rules}
use Rattle.std.proofs.lemmas.List.Recursion.{and_is}
use Rattle.zigbee_types.specs.Lists.{all}
use Rattle.hex_lines.specs.Hex.{is_digit}
use Rattle.hex_lines.proofs.are_digits.Goals as goal

pub returns : goal.returns
unfolding all is_digit
returns c = and_is (all is_digit) is_digit refl (λ _ _. refl) c.args.characters.now 0 _ (search rules) (search rules)
