-- The derived defaults are those of document 01. Assumes nothing.
use borrow.Author.Rules.{rules}
use Rattle.node_descriptor.specs.Defaults.{TypeDefault, NodeDefault}

pub type_default : TypeDefault
type_default t e = e

pub node_default : NodeDefault
node_default n e = search rules
