-- What a session's parts mean: the world that they are a part of, what each of them tells, and how often it failed.
use Rattle.rx_exec_messages.specs.declared.callers.Caller as caller_of
use Rattle.rx_world.specs.declared.benches.Bench as bench_of
use Rattle.rx_world.specs.declared.benches.BenchMaker as maker_of
use Rattle.rx_world.specs.declared.sources.Sources as source_tree
use Rattle.rx_world.specs.declared.streams.Sink as sink_of
use Rattle.rx_world.specs.declared.streams.Source as source_of
use Rattle.rx_world.specs.declared.world.World as world_of
use Rattle.rx_engine.specs.declared.desk.Parts.{Parts}

-- Each part is seen through the parts as a whole, so a part more is a field more. Of the three source trees, inputs are gathered from the
-- first, local attempts read the second, and remote ones the third.
pub record Meanings (P W B : Type 0) : Type 1 where
  pub world : world_of.Ghosts W
  pub input : source_of.Ghosts P
  pub output : sink_of.Ghosts P
  pub tree : source_tree.Ghosts P W
  pub tree_local : source_tree.Ghosts P W
  pub benches : maker_of.Ghosts P W B
  pub bench : bench_of.Ghosts B W
  pub tree_remote : source_tree.Ghosts P W
  pub farm : caller_of.Ghosts P W

-- a source tree that is a part of something
abbrev pub source_part : {P T W : Type 0} → (P → T) → source_tree.Ghosts T W → source_tree.Ghosts P W
source_part part s = record {
  listed = λ p. s.listed (part p);
  keeps = λ p. s.keeps (part p);
  given = λ p. s.given (part p);
  faults = λ p. s.faults (part p);
}

-- a farm's client that is a part of something
abbrev pub farm_part : {P C W : Type 0} → (P → C) → caller_of.Ghosts C W → caller_of.Ghosts P W
farm_part part c = record {
  conversation = λ p. c.conversation (part p);
  vouches = λ p. c.vouches (part p);
  genuine = λ p. c.genuine (part p);
  dialect = λ p. c.dialect (part p);
  running = λ p. c.running (part p);
  streaming = λ p. c.streaming (part p);
  faults = λ p. c.faults (part p);
}

-- what the parts of a desk mean
abbrev pub meanings : {W I O T L M B R C : Type 0} → world_of.Ghosts W → source_of.Ghosts I → sink_of.Ghosts O → source_tree.Ghosts T W
    → source_tree.Ghosts L W → maker_of.Ghosts M W B → bench_of.Ghosts B W → source_tree.Ghosts R W → caller_of.Ghosts C W
    → Meanings (Parts I O T L M R C) W B
meanings w i o t l m b r c = record {
  world = w;
  input = record { left = λ p. i.left p.input; faults = λ p. i.faults p.input };
  output = record { taken = λ p. o.taken p.output; faults = λ p. o.faults p.output };
  tree = source_part (λ p. p.tree) t;
  tree_local = source_part (λ p. p.tree_local) l;
  benches = record { faults = λ p. m.faults p.benches; returned = λ p. m.returned p.benches };
  bench = b;
  tree_remote = source_part (λ p. p.tree_remote) r;
  farm = farm_part (λ p. p.farm) c;
}
