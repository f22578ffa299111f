-- The shape of a line reader's contract leaves one outcome, as a statement: any two that are permitted coincide. A term of it stands in
-- proofs/.
use Rattle.std.specs.Prelude.{ℕ, ◌≡◌, List, Option, Result}
use Rattle.zigbee_types.specs.Answers.{says}
use Rattle.zigbee_types.specs.declared.Refusal.{Refusal}
use Rattle.hex_lines.specs.RequestLine.{Request, LineRead}
use Rattle.hex_lines.specs.declared.ParsedRequest.{ParsedRequest}

-- a line read: the answer and the buffer
abbrev pub OneLineRead : Type 0
OneLineRead =
    (o : Option Request) (before : List ℕ) (r s : Result (Option ParsedRequest) Refusal) (after later : List ℕ)
    → LineRead o before (says r) after
    → LineRead o before (says s) later
    → (r ≡ s) × (after ≡ later)
