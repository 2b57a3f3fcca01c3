use Rattle.std.proofs.Common.{[], arith}
use Rattle.xs_scene_json.proofs.Texts.{scene_of-some}
use Rattle.xs_scene_json.proofs.scene.encode.Goals as goal

pub returns-clause-text : goal.returns-clause-text
returns-clause-text c =
    let text = rw c.in_ok-value.ensures.value at c.in_ok-bytes.ensures.text in
    text (c.what_is_written_is_shallow.ensures.whole c.args.s.now)

pub returns-clause-again : goal.returns-clause-again
returns-clause-again c =
    let within = c.what_is_written_is_shallow.ensures.within c.args.s.now in
    let reads = rw c.in_ok-value.ensures.value at c.in_ok-bytes.ensures.reads_back in
    scene_of-some c.in_ok-bytes.bytes.items _ c.args.s.now c.in_ok-bytes.ensures.utf8 (reads (omega (arith, within))) (c.in_ok-value.ensures.again [])
