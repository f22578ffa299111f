-- What the derived `default` of a logical type and of a configuration gives, as statements. A term of each stands in proofs/.
use Rattle.std.specs.Prelude.{◌≡◌}
use Rattle.node_descriptor.specs.NodeDescriptor.{default_type, default_node}
use Rattle.node_descriptor.specs.contracts.LogicalTypeDefault.TheImpl as logical
use Rattle.node_descriptor.specs.contracts.descriptor.NodeDescriptorConfigDefault.TheImpl as node
use Rattle.node_descriptor.specs.declared.LogicalType.{LogicalType}
use Rattle.node_descriptor.specs.declared.descriptor.NodeDescriptorConfig.{NodeDescriptorConfig}

-- `LogicalType::default` is the default type
abbrev pub TypeDefault : Type 0
TypeDefault = (t : LogicalType) → logical.ghosts.is_default t → t ≡ default_type

-- `NodeDescriptorConfig::default` is the unfilled configuration
abbrev pub NodeDefault : Type 0
NodeDefault = (n : NodeDescriptorConfig) → node.ghosts.is_default n → n ≡ default_node
