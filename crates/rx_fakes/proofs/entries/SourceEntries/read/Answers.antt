use Rattle.std.proofs.Common.{map}
use Rattle.rx_fakes.specs.Entries.{entry_of}
use Rattle.rx_fakes.proofs.Genuine.{read_bytes, read_content}
use Rattle.rx_fakes.proofs.entries.SourceEntries.read.Goals as goal

pub returns-clause-bytes : goal.returns-clause-bytes
returns-clause-bytes g c =
    read_bytes g.K.Contents.honest g.K.Contents.holds c.args.path.now (map entry_of c.self.inside.nodes.entries) c.read_node.result c.self.invariant.genuine c.read_node.ensures

pub returns-clause-honest : goal.returns-clause-honest
returns-clause-honest g c =
    read_content g.K.Contents.honest g.K.Contents.holds c.args.path.now (map entry_of c.self.inside.nodes.entries) c.read_node.result c.self.invariant.genuine c.read_node.ensures
