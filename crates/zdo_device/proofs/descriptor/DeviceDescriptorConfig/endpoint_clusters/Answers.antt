-- `DeviceDescriptorConfig::endpoint_clusters` meets its contract, at each of its ways out. Assumes nothing.
use borrow.Author.Rules.{rules}
use Rattle.zigbee_types.proofs.Scans.{said_yes}
use Rattle.zdo_device.proofs.Records.{good_found}
use Rattle.zdo_device.proofs.Clusters.{clusters_bad, clusters_none, clusters_found}
use Rattle.zdo_device.proofs.descriptor.DeviceDescriptorConfig.endpoint_clusters.Goals as goal

ruleset laws = (rules, said_yes, good_found, clusters_bad, clusters_none, clusters_found)

pub returns-then-not-good_tables : goal.returns-then-not-good_tables
returns-then-not-good_tables c = search laws

pub clusters-requires : goal.clusters-requires
clusters-requires c = search laws

pub returns-in-Some : goal.returns-in-Some
returns-in-Some c = search laws

pub returns-in-None : goal.returns-in-None
returns-in-None c = search laws
