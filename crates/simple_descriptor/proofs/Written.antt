-- Writing: when a descriptor is refused, and what its fields come to. Assumes nothing.
use Rattle.std.specs.Prelude.{Ok, Err}
use Prim.Native.Nat.{ℕ, ◌+◌, ◌*◌, ◌%◌, ◌≤◌, ◌<◌}
use native.Mathlib.Omega.{arith}
use mathlib.Core.Path.{◌≡◌, refl}
use mathlib.Core.List.{List}
use lib.ListN.{length, length-append}
use borrow.Author.Tests.{le-leb, lt-leb}
use Rattle.zigbee_types.specs.Outcome.{mapped, fitted, written, Wrote}
use Rattle.zigbee_types.specs.Bytes.{le, FieldPut}
use Rattle.zigbee_types.specs.Layout.{laid, size, FieldsPut, listed}
use Rattle.zigbee_types.specs.FieldLaws.{widths}
use Rattle.zigbee_types.specs.Answers.{says}
use Rattle.zigbee_types.specs.declared.Refusal.TheVariants.{TooManyClusters, ShortBuffer}
use Rattle.zigbee_types.proofs.Layouts.{laid_counted, length_listed}
use Rattle.zigbee_types.proofs.Runs.{laid_append, run_put_one, run_put_more, run_put_both, run_writes, run_full}
use Rattle.simple_descriptor.specs.SimpleDescriptor.{Endpoint, simple_header, simple_descriptor_of, cluster_count, simple_written}

-- ---- sizes

-- the place behind a list of clusters
pub clusters_moved : (cs : List ℕ) {s t : List ℕ} {at n : ℕ} → FieldsPut (listed 2 cs) s at n t → n ≡ at + 1 + 2 * length cs
clusters_moved cs p = omega (arith, p.moved, length_listed 2 cs)

-- the fields in front have six bytes
pub header_size : (e : Endpoint) → length (laid (simple_header e)) ≡ 6
unfolding simple_header laid le
header_size e = refl

-- a descriptor has eight bytes, and two for each cluster
pub simple_length : (e : Endpoint) → length (laid (simple_descriptor_of e)) ≡ 8 + 2 * cluster_count e
unfolding simple_descriptor_of cluster_count
simple_length e = simp (laid_append, length-append, header_size, length_listed) (omega arith)

-- its widths say so too
pub simple_size : (e : Endpoint) → size (widths (simple_descriptor_of e)) ≡ 8 + 2 * cluster_count e
simple_size e = rw (← laid_counted) (simple_length e)

-- ---- a writer

module _ (e : Endpoint) (s : List ℕ) where
  -- refused where the clusters are too many
  pub simple_many :
      28 < length e.input_clusters + length e.output_clusters
      → Wrote (simple_written e) s (says (Err TooManyClusters)) s
  unfolding simple_written cluster_count says mapped fitted written
  simple_many h = record { said = rw (lt-leb _ _ h); left = rw (lt-leb _ _ h) }

  module _ (few : length e.input_clusters + length e.output_clusters ≤ 28) where
    -- and where the buffer is too short
    pub simple_full :
        length s < 8 + 2 * (length e.input_clusters + length e.output_clusters)
        → Wrote (simple_written e) s (says (Err ShortBuffer)) s
    unfolding simple_written cluster_count says
    simple_full h = rw (le-leb _ _ few) (run_full (simple_descriptor_of e) s (rw simple_size h))

    -- otherwise the fields in front, inputs and outputs are the descriptor
    pub simple_writes :
        {m n k : ℕ} {t u v : List ℕ}
        → 8 + 2 * (length e.input_clusters + length e.output_clusters) ≤ length s
        → FieldsPut (simple_header e) s 0 m t
        → FieldsPut (listed 2 e.input_clusters) t m n u
        → FieldsPut (listed 2 e.output_clusters) u n k v
        → Wrote (simple_written e) s (says (Ok k)) v
    unfolding simple_written cluster_count simple_descriptor_of says
    simple_writes h p q r = rw (le-leb _ _ few) (run_writes (run_put_both (run_put_both p q) r) (rw simple_size h))

-- the fields in front
pub front_put :
    (e : Endpoint) {s t u v w : List ℕ} {i j k n x : ℕ}
    → FieldPut 1 e.endpoint s 0 i t
    → FieldPut 2 e.profile_id t i j u
    → FieldPut 2 e.device_id u j k v
    → x ≡ e.device_version % 16
    → FieldPut 1 x v k n w
    → FieldsPut (simple_header e) s 0 n w
unfolding simple_header
front_put e p q r d l = rw (← d) (run_put_more p (run_put_more q (run_put_more r (run_put_one l))))
