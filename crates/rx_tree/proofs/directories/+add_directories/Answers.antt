use Rattle.std.proofs.Common.{◌≡◌, ◌<◌, ◌∙◌, ℕ, length, take, sym, ap, arith}
use Rattle.rx_base.specs.Digests.{digest_of}
use Rattle.rx_tree.specs.Entries.{content_of}
use Rattle.rx_tree.specs.Planting.{run_length}
use Rattle.rx_tree.specs.Trees.{rests, tree_bytes, tree_of}
use Rattle.rx_tree.proofs.PlantingLemmas.{all_pushed, down_ready, next_directory, next_ended, next_file, planted_again, planted_all, run_some, run_within}
use Rattle.rx_tree.proofs.directories.+add_directories.Goals.{in-Some+in-Some-file_after+in_ok-file_node-in-Some-file_after+in_ok-push-in-Some-file_after, in-Some+in-None+in_ok-digest-in-None+in_ok-directory_node-in-None+in_ok-push-in-None, in_default}
use Rattle.rx_tree.proofs.directories.+add_directories.Goals as goal

pub split_at-requires-in-loop-at : goal.split_at-requires-in-loop-at
split_at-requires-in-loop-at t c =
    let within = run_within c.args.depth c.index-rest-0.result c.split_at.result.1.now in
    omega (arith, c.run_len.ensures)

pub add_directories-requires : goal.add_directories-requires
add_directories-requires t c =
    let some : 0 < length c.split_at.result.1.now = omega (arith, c.split_at.ensures.back_len, c.loop-at-test.true) in
    let run = c.split_at-in-loop-at.ensures.front ∙ ap (λ (n : ℕ). take n c.split_at.result.1.now) c.run_len.ensures in
    let down = down_ready c.args.depth c.args.entries.now c.split_at.result.1.now c.loop-at.at c.index-rest-0.result c.split_at.ensures.back some c.index-rest-0.is c.loop-at.invariant.planted c.in-Some.name.now
    (sym c.in-Some.ensures.name) c.split_at-in-loop-at.result.0.now run in
    (omega (arith, down.0, c.decreases), down.1)

pub loop-at-smaller : goal.loop-at-smaller
loop-at-smaller t c =
    let some : 0 < length c.split_at.result.1.now = omega (arith, c.split_at.ensures.back_len, c.loop-at-test.true) in
    let more = run_some c.args.depth c.args.entries.now c.split_at.result.1.now c.loop-at.at c.index-rest-0.result c.split_at.ensures.back some c.index-rest-0.is in
    omega (arith, c.run_len.ensures, c.split_at-in-loop-at.ensures.front_len, c.loop-at-test.true)

pub loop-at-preserved : goal.loop-at-preserved
loop-at-preserved t c =
    let some : 0 < length c.split_at.result.1.now = omega (arith, c.split_at.ensures.back_len, c.loop-at-test.true) in
    let within = run_within c.args.depth c.index-rest-0.result c.split_at.result.1.now in
    let size : length c.split_at-in-loop-at.result.0.now ≡ run_length c.args.depth c.index-rest-0.result c.split_at.result.1.now = c.split_at-in-loop-at.ensures.front_len ∙ c.run_len.ensures in
    let run = c.split_at-in-loop-at.ensures.front ∙ ap (λ (n : ℕ). take n c.split_at.result.1.now) c.run_len.ensures in
    record {
      within = omega (arith, c.split_at.ensures.back_len);
      planted = elim c.match-name.branch [
        | in-Some+in-Some-file_after+in_ok-file_node-in-Some-file_after+in_ok-push-in-Some-file_after w ↦
            let step = next_file c.args.depth c.args.entries.now c.split_at.result.1.now c.loop-at.at c.index-rest-0.result c.split_at.ensures.back some c.index-rest-0.is (length c.split_at-in-loop-at.result.0.now) size
            c.loop-at.invariant.planted w.in-Some.name.now (content_of w.in-Some-file_after.file.now) (sym w.in-Some.ensures.name) (sym w.in-Some-file_after.ensures) in
            rw (w.files-is, w.directories-is, w.blobs-is, w.in_ok-push-in-Some-file_after.ensures.items, w.in_ok-file_node-in-Some-file_after.ensures) step
        | in-Some+in-None+in_ok-digest-in-None+in_ok-directory_node-in-None+in_ok-push-in-None w ↦
            let step = next_directory c.args.depth c.args.entries.now c.split_at.result.1.now c.loop-at.at c.index-rest-0.result c.split_at.ensures.back some c.index-rest-0.is (length c.split_at-in-loop-at.result.0.now) size
            c.loop-at.invariant.planted w.in-Some.name.now (sym w.in-Some.ensures.name) (sym w.in-None.ensures) c.split_at-in-loop-at.result.0.now run w.in_ok-digest-in-None.ensures.blobs w.in_ok-digest-in-None.ensures.again in
            rw (w.files-is, w.directories-is, w.blobs-is, w.in_ok-push-in-None.ensures.items, w.in_ok-directory_node-in-None.ensures, w.in_ok-digest-in-None.ensures.root) step
        | in_default w ↦
            let step = next_ended c.args.depth c.args.entries.now c.split_at.result.1.now c.loop-at.at c.index-rest-0.result c.split_at.ensures.back some c.index-rest-0.is (length c.split_at-in-loop-at.result.0.now) size
            c.loop-at.invariant.planted (sym w.in_default.ensures.name) in
            rw (w.files-is, w.directories-is, w.blobs-is) step
      ];
    }

pub returns-clause-root : goal.returns-clause-root
returns-clause-root t c =
    let done = planted_all c.args.depth c.loop-at.at c.args.entries.now c.loop-at.invariant.planted c.loop-at-test.false in
    rw (c.of_bytes-blob.ensures, c.in_ok-encode.ensures.bytes, c.from_vec.ensures, c.from_vec-2.ensures, c.new.ensures) (ap digest_of done.0)

pub returns-clause-blobs : goal.returns-clause-blobs
returns-clause-blobs t c =
    let done = planted_all c.args.depth c.loop-at.at c.args.entries.now c.loop-at.invariant.planted c.loop-at-test.false in
    let bytes : c.in_ok-encode.field-0.items ≡ tree_bytes (tree_of (rests c.args.depth c.args.entries.now)) = rw (c.in_ok-encode.ensures.bytes, c.from_vec.ensures, c.from_vec-2.ensures, c.new.ensures) done.0 in
    rw (c.in_ok-push.ensures.items, c.of_bytes-blob.ensures) (all_pushed c.args.blobs.now.items c.loop-at.blobs.items (tree_of (rests c.args.depth c.args.entries.now)) c.in_ok-encode.field-0.items done.1 bytes)

pub returns-clause-again : goal.returns-clause-again
returns-clause-again t c =
    planted_again c.args.depth c.loop-at.at c.args.entries.now c.loop-at.invariant.planted c.loop-at-test.false
    (rw (c.in_ok-encode.ensures.bytes, c.from_vec.ensures, c.from_vec-2.ensures, c.new.ensures) at c.in_ok-encode.ensures.again)
