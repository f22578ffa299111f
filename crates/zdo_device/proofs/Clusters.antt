-- A record's parts of the two pools, and the part that an endpoint number has. Assumes nothing.
use Rattle.std.specs.Prelude.{Option, Some, None}
use Rattle.std.specs.Option.{is_some}
use Prim.Native.Nat.{ℕ, ◌+◌, ◌≤◌}
use mathlib.Core.Path.{◌≡◌}
use mathlib.Core.Bool.{Bool, true, false, not, and-eq-true_iff}
use mathlib.Core.List.{List, []}
use lib.Dec.{leb}
use lib.ListN.{length}
use borrow.Author.Tests.{leb-true}
use Rattle.zigbee_types.specs.Lists.{part, option}
use Rattle.zigbee_types.proofs.Scans.{said_no, said_yes}
use Rattle.zdo_device.specs.Tables.{Pools, endpoint_record, supports_endpoint, record_fits, good_device, endpoint_of, clusters_of, endpoint_clusters}
use Rattle.zdo_device.specs.declared.descriptor.EndpointDescriptor.{EndpointDescriptor}
use Rattle.zdo_device.specs.declared.descriptor.DeviceDescriptorConfig.{DeviceDescriptorConfig}
use Rattle.zdo_device.specs.declared.descriptor.Side.{Side}
use Rattle.zdo_device.specs.declared.descriptor.Side.TheVariants.{Input, Output}

module _ (p : Pools) (e : EndpointDescriptor) where
  -- a record that fits ends within its pools
  module _ (h : record_fits p e ≡ true) where
    both : (leb (e.input_start + e.input_count) (length p.inputs) ≡ true) × (leb (e.output_start + e.output_count) (length p.outputs) ≡ true)
    unfolding record_fits
    both = (and-eq-true_iff _ _).0 h

    pub inputs_fit : e.input_start + e.input_count ≤ length p.inputs
    inputs_fit = leb-true _ _ both.0

    pub outputs_fit : e.output_start + e.output_count ≤ length p.outputs
    outputs_fit = leb-true _ _ both.1

  -- its part of each pool is that side's clusters
  module _ (s : Side) {xs : List ℕ} where
    pub input_part : xs ≡ part e.input_start e.input_count p.inputs → s ≡ Input → xs ≡ clusters_of s (endpoint_of p e)
    unfolding clusters_of endpoint_of
    input_part h is = rw is h

    pub output_part : xs ≡ part e.output_start e.output_count p.outputs → s ≡ Output → xs ≡ clusters_of s (endpoint_of p e)
    unfolding clusters_of endpoint_of
    output_part h is = rw is h

module _ (p : Pools) (d : DeviceDescriptorConfig) (s : Side) (n : ℕ) (t : Bool) (is : t ≡ good_device p d) where
  -- none, where the tables are not good
  pub clusters_bad : not t ≡ true → [] ≡ endpoint_clusters p d s n
  unfolding endpoint_clusters
  clusters_bad bad = rw (said_no is bad)

  module _ (fine : not t ≡ false) {q : Option EndpointDescriptor} (f : q ≡ endpoint_record d n) where
    -- none, where there is no record
    pub clusters_none : q ≡ None → [] ≡ endpoint_clusters p d s n
    unfolding endpoint_clusters option
    clusters_none e = rw (said_yes is fine, ← f, e)

    -- otherwise those of the record that is found
    pub clusters_found : {e : EndpointDescriptor} {xs : List ℕ} → q ≡ Some e → xs ≡ clusters_of s (endpoint_of p e) → xs ≡ endpoint_clusters p d s n
    unfolding endpoint_clusters option
    clusters_found e h = rw (said_yes is fine, ← f, e) h

-- a number is supported where a record is found
pub supports_found :
    (d : DeviceDescriptorConfig) (n : ℕ) {q : Option EndpointDescriptor} {t : Bool}
    → q ≡ endpoint_record d n
    → t ≡ is_some q
    → t ≡ supports_endpoint d n
unfolding supports_endpoint option
supports_found d n {q} {t} f e = rw (← f) (go q e)
  where
    go : (q : Option EndpointDescriptor) → t ≡ is_some q → t ≡ option false (λ e. true) q
    go None e = e
    go (Some x) e = e
