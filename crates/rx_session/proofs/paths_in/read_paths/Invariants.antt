use Rattle.std.proofs.Common.{◌≡◌, take, map, true}
use Rattle.std.specs.List.{list_all}
use Rattle.rx_session.specs.Rules.{is_path, path_in}
use Rattle.rx_session.proofs.paths_in.read_paths.Given as goal

abbrev pub invariant-loop-text : goal.invariant-loop-text
invariant-loop-text l = record {
  read : l.paths.items ≡ map path_in (take l.text-index l.texts);
  hold : list_all is_path (take l.text-index l.texts) ≡ true;
}
