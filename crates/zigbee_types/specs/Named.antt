-- A field whose numbers have names, but for some that are reserved.
use Rattle.std.specs.Prelude.{ℕ, List, eqb}
use Rattle.zigbee_types.specs.Lists.{find, option}

-- the named value that has the number n; where none has it, the reserved value that keeps it
unfoldable pub named : {A : Type 0} → (A → ℕ) → List A → (ℕ → A) → ℕ → A
named number names reserved n = option (reserved n) (λ a. a) (find (λ a. eqb (number a) n) names)
