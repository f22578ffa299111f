-- `NodeDescriptorConfig::write` meets its contract: nine fields are put one behind the other. Assumes nothing.
use borrow.Author.Rules.{rules}
use Rattle.zigbee_types.specs.Answers.{says}
use Rattle.zigbee_types.specs.Layout.{size}
use Rattle.zigbee_types.proofs.Runs.{run_put_none, run_put_more, run_put_told, run_writes, run_full}
use Rattle.node_descriptor.specs.NodeDescriptor.{node_descriptor_of}
use Rattle.node_descriptor.proofs.descriptor.NodeDescriptorConfig.write.Goals as goal

pub returns-then-out-lt-NODE_DESCRIPTOR_SIZE : goal.returns-then-out-lt-NODE_DESCRIPTOR_SIZE
unfolding says size node_descriptor_of
returns-then-out-lt-NODE_DESCRIPTOR_SIZE c = search (rules, run_full)

pub returns : goal.returns
unfolding says size node_descriptor_of
returns c =
    run_writes
    (run_put_told c.write-at.ensures c.byte0.ensures
    (run_put_told c.write-at-2.ensures c.byte1.ensures
    (run_put_more c.write-at-3.ensures
    (run_put_more c.write-at-4.ensures
    (run_put_more c.write-at-5.ensures
    (run_put_more c.write-at-6.ensures
    (run_put_more c.write-at-7.ensures
    (run_put_more c.write-at-8.ensures
    (run_put_more c.write-at-9.ensures run_put_none)))))))))
    c.if-out-lt-NODE_DESCRIPTOR_SIZE.false
