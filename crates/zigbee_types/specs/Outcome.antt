-- What a call comes to, an answer or a refusal, and what it leaves in a buffer that the caller lent.
use Rattle.std.specs.Prelude.{ℕ, min, ◌≡◌, cond, List, ◌++◌, leb, length, take, drop}

-- an answer, or document 01's number of a refusal
pub data Outcome (A : Type 0) : Type 0 where
  answer : A → Outcome A
  refusal : ℕ → Outcome A

module _ {A B : Type 0} where
  -- what comes next after an answer; a refusal stays a refusal
  unfoldable pub and_then : Outcome A → (A → Outcome B) → Outcome B
  and_then (answer a) next = next a
  and_then (refusal n) next = refusal n

  -- the answer, seen through f
  unfoldable pub mapped : (A → B) → Outcome A → Outcome B
  mapped f (answer a) = answer (f a)
  mapped f (refusal n) = refusal n

-- refusal 3: what is read needs n bytes, and there are fewer
unfoldable pub needing : {A : Type 0} → ℕ → List ℕ → A → Outcome A
needing n bytes a = cond (leb n (length bytes)) (answer a) (refusal 3)

-- refusal 5: what is to be written, mostly a reply, is longer than the room for it
unfoldable pub fitted : ℕ → Outcome (List ℕ) → Outcome (List ℕ)
fitted room (answer bytes) = cond (leb (length bytes) room) (answer bytes) (refusal 5)
fitted room (refusal n) = refusal n

-- what the buffer then holds: the reply and what stood behind it; after a refusal, what it held before
unfoldable pub written : List ℕ → Outcome (List ℕ) → List ℕ
written before (answer bytes) = bytes ++ drop (length bytes) before
written before (refusal n) = before

-- a writer that comes to o: the length of the reply is told and the reply stands in the buffer, or a refusal is told and the
-- buffer is as it was
pub record Wrote (o : Outcome (List ℕ)) (before : List ℕ) (told : Outcome ℕ) (after : List ℕ) : Type 0 where
  pub said : told ≡ mapped length (fitted (length before) o)
  pub left : after ≡ written before (fitted (length before) o)

-- of a list that may be cut: how many of it there is room for
unfoldable pub begun_length : List ℕ → Outcome (List ℕ) → Outcome ℕ
begun_length before o = mapped (λ xs. min (length before) (length xs)) o

-- what the buffer then holds: as many of the list as there is room for, and what stood behind them
unfoldable pub begun : List ℕ → Outcome (List ℕ) → List ℕ
begun before (answer xs) = take (length before) xs ++ drop (length xs) before
begun before (refusal n) = before

-- a search that comes to the list o: how many of it begin the buffer is told, or a refusal, and then the buffer is as it was
pub record Begun (o : Outcome (List ℕ)) (before : List ℕ) (told : Outcome ℕ) (after : List ℕ) : Type 0 where
  pub said : told ≡ begun_length before o
  pub left : after ≡ begun before o
