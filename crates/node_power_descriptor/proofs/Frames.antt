-- The power descriptor as it is read and written, byte by byte. Assumes nothing.
use Rattle.std.specs.Prelude.{Ok, Err}
use Prim.Native.Nat.{ℕ, ◌/◌, ◌%◌, ◌≤◌, ◌<◌}
use mathlib.Core.Path.{◌≡◌}
use mathlib.Core.Bool.{Bool, true, false, not, cond}
use mathlib.Core.List.{List}
use lib.ListN.{length}
use borrow.Author.Tests.{not-true, not-false}
use Rattle.zigbee_types.specs.Outcome.{answer, refusal, and_then, Wrote}
use Rattle.zigbee_types.specs.Answers.{says}
use Rattle.zigbee_types.specs.Bytes.{FieldRead, FieldPut}
use Rattle.zigbee_types.specs.Layout.{laid, size}
use Rattle.zigbee_types.specs.declared.Refusal.TheVariants.{Malformed, ShortBuffer}
use Rattle.zigbee_types.proofs.Runs.{run_read_none, run_read_more, run_parses, run_short, run_put_none, run_put_more, run_writes, run_full}
use Rattle.node_power_descriptor.specs.PowerDescriptor.{power_byte0, power_byte1, power_descriptor_of, power_widths, power_descriptor_in, usable}
use Rattle.node_power_descriptor.specs.declared.NodePowerDescriptor.{NodePowerDescriptor}
use Rattle.node_power_descriptor.specs.declared.descriptor.PowerDescriptorConfig.{PowerDescriptorConfig}

-- ---- reading

-- what is made of the two fields
abbrev made : (ℕ → ℕ) → NodePowerDescriptor
made field = record { «byte0» = field 0; «byte1» = field 1 }

-- too few bytes
pub power_short : (bytes : List ℕ) → length bytes < 2 → says (Err Malformed) ≡ power_descriptor_in bytes
unfolding says power_descriptor_in power_widths size and_then
power_short bytes h = rw (← run_short power_widths bytes made h)

-- two bytes were read
module _
    {bytes : List ℕ} {v w m n : ℕ} {b : Bool}
    (p : FieldRead 1 bytes 0 v m)
    (q : FieldRead 1 bytes m w n)
    (h : 2 ≤ length bytes)
    (e : b ≡ usable (v / 16) (w % 16)) where
  -- they are judged by their current source
  judged : cond b (answer (record { «byte0» = v; «byte1» = w })) (refusal 3) ≡ power_descriptor_in bytes
  unfolding power_descriptor_in power_widths size and_then
  judged = rw (e, ← run_parses made (run_read_more p (run_read_more q run_read_none)) h)

  pub power_refused : not b ≡ true → says (Err Malformed) ≡ power_descriptor_in bytes
  unfolding says
  power_refused t = rw (not-true b t) at judged

  pub power_read_lem : not b ≡ false → says (Ok (record { «byte0» = v; «byte1» = w })) ≡ power_descriptor_in bytes
  unfolding says
  power_read_lem t = rw (not-false b t) at judged

-- ---- writing

-- too short a buffer
pub power_full :
    (p : PowerDescriptorConfig) (s : List ℕ) → length s < 2 → Wrote (answer (laid (power_descriptor_of p))) s (says (Err ShortBuffer)) s
unfolding power_descriptor_of says size
power_full p s h = run_full (power_descriptor_of p) s h

-- two bytes were put
pub power_written :
    (p : PowerDescriptorConfig) {b0 b1 m n : ℕ} {s t u : List ℕ}
    → b0 ≡ power_byte0 p
    → b1 ≡ power_byte1 p
    → FieldPut 1 b0 s 0 m t
    → FieldPut 1 b1 t m n u
    → 2 ≤ length s
    → Wrote (answer (laid (power_descriptor_of p))) s (says (Ok n)) u
unfolding power_descriptor_of says size
power_written p e f q r h = rw (← e, ← f) (run_writes (run_put_more q (run_put_more r run_put_none)) h)
