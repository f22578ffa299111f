-- `NodeDescriptor::try_read` meets its contract: nine fields are read one behind the other. Assumes nothing.
use borrow.Author.Rules.{rules}
use Rattle.zigbee_types.specs.Layout.{size}
use Rattle.zigbee_types.proofs.Runs.{run_read_none, run_read_more, run_parses, run_short}
use Rattle.node_descriptor.specs.NodeDescriptor.{node_widths, node_descriptor_in}
use Rattle.zigbee_types.specs.Answers.{says}
use Rattle.node_descriptor.proofs.NodeDescriptor.try_read.Goals as goal

pub returns-then-bytes-lt-NODE_DESCRIPTOR_SIZE : goal.returns-then-bytes-lt-NODE_DESCRIPTOR_SIZE
unfolding size node_widths node_descriptor_in says
returns-then-bytes-lt-NODE_DESCRIPTOR_SIZE c = search (rules, run_short)

pub returns : goal.returns
unfolding size node_widths node_descriptor_in says
returns c =
    run_parses _
    (run_read_more c.read-byte0.ensures
    (run_read_more c.read-byte1.ensures
    (run_read_more c.read-mac_capability_flags.ensures
    (run_read_more c.read-manufacturer_code.ensures
    (run_read_more c.read-maximum_buffer_size.ensures
    (run_read_more c.read-maximum_incoming_transfer_size.ensures
    (run_read_more c.read-server_mask.ensures
    (run_read_more c.read-maximum_outgoing_transfer_size.ensures
    (run_read_more c.read-descriptor_capability_field.ensures run_read_none)))))))))
    c.if-bytes-lt-NODE_DESCRIPTOR_SIZE.false
