-- Bind and unbind, on the list of the entries that are held (document 01, "Binding and dispatch"; 2.2.4.3.1, 2.2.4.3.3).
use Rattle.std.specs.Prelude.{ℕ, Bool, true, false, cond, List, [], ◌∷◌, ◌++◌, eqb, length}
use Rattle.zigbee_types.specs.Lists.{any}
use Rattle.zigbee_types.specs.Statuses.{SUCCESS, TABLE_FULL, NO_ENTRY}
use Rattle.aps_binding.specs.Entry.{same}
use Rattle.aps_binding.specs.declared.binding.Binding.{Binding}

-- is an entry held?
unfoldable pub holds : Binding → List Binding → Bool
holds b xs = any (same b) xs

-- the list without the first entry that is the same
unfoldable pub without : Binding → List Binding → List Binding
without b [] = []
without b (x ∷ xs) = cond (same b x) xs (x ∷ without b xs)

-- a status, and the entries that are held then
pub record Step : Type 0 where
  pub status : ℕ
  pub entries : List Binding

-- is it held, is the table full: an entry already held is success, even in a full table; otherwise a full table
-- says so; otherwise the entry is appended
unfoldable pub bound_as : Bool → Bool → List Binding → Binding → Step
bound_as true full xs b = record { status = SUCCESS; entries = xs }
bound_as false true xs b = record { status = TABLE_FULL; entries = xs }
bound_as false false xs b = record { status = SUCCESS; entries = xs ++ (b ∷ []) }

-- a bind, where at most so many entries may be held
unfoldable pub bound : ℕ → List Binding → Binding → Step
bound limit xs b = bound_as (holds b xs) (eqb (length xs) limit) xs b

-- is it held: the first equal entry goes and the rest keep their order; else there is no entry
unfoldable pub unbound_as : Bool → List Binding → Binding → Step
unbound_as true xs b = record { status = SUCCESS; entries = without b xs }
unbound_as false xs b = record { status = NO_ENTRY; entries = xs }

-- an unbind
unfoldable pub unbound : List Binding → Binding → Step
unbound xs b = unbound_as (holds b xs) xs b
