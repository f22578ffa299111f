-- Reading: the fields in front, then what the reader of the lists said. Assumes nothing.
use Rattle.std.specs.Prelude.{Ok}
use Prim.Native.Nat.{ℕ, ◌%◌, ◌≤◌}
use native.Mathlib.Omega.{arith}
use mathlib.Core.Path.{◌≡◌}
use mathlib.Core.List.{List, [], ◌∷◌}
use lib.ListN.{length}
use Rattle.zigbee_types.specs.Outcome.{mapped}
use Rattle.zigbee_types.specs.Bytes.{FieldRead}
use Rattle.zigbee_types.specs.Layout.{field_of, lists_in}
use Rattle.zigbee_types.specs.Answers.{says}
use Rattle.zigbee_types.specs.declared.ClusterLists.{ClusterLists}
use Rattle.zigbee_types.proofs.Runs.{RunRead, run_read_none, run_read_more}
use Rattle.zigbee_types.proofs.Counted.{lists_long}
use Rattle.simple_descriptor.specs.SimpleDescriptor.{simple_widths, simple_of, simple_descriptor_in}
use Rattle.simple_descriptor.specs.declared.SimpleDescriptorFields.{SimpleDescriptorFields}

-- four fields that were read one behind the other are the descriptor's
pub front_read :
    {bytes : List ℕ} {i j k l a b c d v : ℕ} (lists : ClusterLists)
    → FieldRead 1 bytes 0 a i
    → FieldRead 2 bytes i b j
    → FieldRead 2 bytes j c k
    → FieldRead 1 bytes k d l
    → v ≡ d % 16
    → ◌≡◌
    {A = SimpleDescriptorFields}
    (record {
      endpoint = a;
      profile_id = b;
      device_id = c;
      device_version = v;
      input_clusters = lists.input_clusters;
      output_clusters = lists.output_clusters;
    })
    (simple_of (field_of simple_widths bytes) lists)
unfolding simple_widths simple_of
front_read {bytes} {a = a} {b} {c} {d} lists p q r s e =
    let run : RunRead simple_widths bytes 0 (a ∷ b ∷ c ∷ d ∷ []) =
    run_read_more p (run_read_more q (run_read_more r (run_read_more s run_read_none))) in
    rw (← run.told, e)

module _ (bytes : List ℕ) (found : ClusterLists) (said : says (Ok found) ≡ lists_in bytes 6) where
  -- where lists were read, the fields in front are there
  pub front_there : 6 ≤ length bytes
  front_there = omega (arith, lists_long bytes 6 found said)

  -- and with them the descriptor is read
  pub simple_read_lem : {d : SimpleDescriptorFields} → d ≡ simple_of (field_of simple_widths bytes) found → says (Ok d) ≡ simple_descriptor_in bytes
  unfolding says mapped simple_descriptor_in
  simple_read_lem e = rw (← said, e)
