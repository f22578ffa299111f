-- The check of a run of records. Assumes nothing.
use Rattle.std.specs.List.{list_all}
use mathlib.Core.Path.{◌≡◌, sym, ◌∙◌}
use mathlib.Core.Bool.{Bool, true, false, not}
use mathlib.Core.List.{List}
use lib.ListN.{length}
use Rattle.zigbee_types.proofs.Scans.{said_no}
use Rattle.zdo_device.specs.Tables.{Pools, record_fits, good_sizes, good_records}
use Rattle.zdo_device.specs.declared.descriptor.EndpointDescriptor.{EndpointDescriptor}
use Rattle.zdo_device.proofs.Chains.{same_all}

module _ (p : Pools) (records : List EndpointDescriptor) {t : Bool} (is : t ≡ good_sizes (length records) (length p.inputs) (length p.outputs)) where
  -- too many records or clusters
  pub records_many : not t ≡ true → false ≡ good_records p records
  unfolding good_records
  records_many bad = rw (said_no is bad)

  -- otherwise a test of all says whether they are good
  pub records_checked : t ≡ true → {r : Bool} → r ≡ list_all (record_fits p) records → r ≡ good_records p records
  unfolding good_records
  records_checked fine f =
      let sizes : good_sizes (length records) (length p.inputs) (length p.outputs) ≡ true = sym is ∙ fine in
      rw (f, sizes, same_all)
