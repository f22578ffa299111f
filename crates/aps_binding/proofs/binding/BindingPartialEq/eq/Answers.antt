-- `==` on entries meets its contract: its six tests are those of two keys. Assumes nothing.
use mathlib.Core.Bool.{and_assoc, and-true}
use Rattle.aps_binding.specs.Entry.{key, alike, same}
use Rattle.aps_binding.proofs.binding.BindingPartialEq.eq.Goals as goal

pub returns : goal.returns
unfolding same key alike
returns c = rw (c.eq.ensures, c.eq-2.ensures) (simp (and_assoc, and-true))
