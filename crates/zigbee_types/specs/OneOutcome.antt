-- The shapes of contracts leave one outcome, as statements: any two that are permitted coincide. A term of each stands in
-- proofs/.
use Rattle.std.specs.Prelude.{ℕ, ◌≡◌, List}
use Rattle.zigbee_types.specs.Outcome.{Outcome, Wrote, Begun}
use Rattle.zigbee_types.specs.Bytes.{FieldRead, FieldPut}
use Rattle.zigbee_types.specs.Layout.{Field, FieldsPut}

-- a field read: its value and the place behind it
abbrev pub OneRead : Type 0
OneRead =
    (k : ℕ) (bytes : List ℕ) (at v w m n : ℕ)
    → FieldRead k bytes at v m
    → FieldRead k bytes at w n
    → (v ≡ w) × (m ≡ n)

-- a field put: the place behind it and the buffer
abbrev pub OnePut : Type 0
OnePut =
    (k x : ℕ) (before : List ℕ) (at m n : ℕ) (after later : List ℕ)
    → FieldPut k x before at m after
    → FieldPut k x before at n later
    → (m ≡ n) × (after ≡ later)

-- fields put: the place behind them and the buffer
abbrev pub OneRun : Type 0
OneRun =
    (fs : List Field) (before : List ℕ) (at m n : ℕ) (after later : List ℕ)
    → FieldsPut fs before at m after
    → FieldsPut fs before at n later
    → (m ≡ n) × (after ≡ later)

-- a reply written: what is told and the buffer
abbrev pub OneWrote : Type 0
OneWrote =
    (o : Outcome (List ℕ)) (before : List ℕ) (r s : Outcome ℕ) (after later : List ℕ)
    → Wrote o before r after
    → Wrote o before s later
    → (r ≡ s) × (after ≡ later)

-- a list begun: what is told and the buffer
abbrev pub OneBegun : Type 0
OneBegun =
    (o : Outcome (List ℕ)) (before : List ℕ) (r s : Outcome ℕ) (after later : List ℕ)
    → Begun o before r after
    → Begun o before s later
    → (r ≡ s) × (after ≡ later)
