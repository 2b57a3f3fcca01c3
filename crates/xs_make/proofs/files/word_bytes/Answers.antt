use Rattle.std.proofs.Common.{◌≡◌, ◌++◌, ap, ◌∙◌, rules}
use Rattle.xs_rawfile.specs.Level.{four_bytes}
use Rattle.xs_make.specs.Draws.{state_after}
use Rattle.xs_make.specs.Files.{word_at, word_bytes}
use Rattle.xs_make.proofs.Drawn.{flat_map_more}
use Rattle.xs_make.proofs.Parts.{after_one_more, word_at_more}
use Rattle.xs_make.proofs.files.word_bytes.Goals as goal

pub loop-word-preserved : goal.loop-word-preserved
unfolding word_bytes
loop-word-preserved c =
    let x = c.args.draws.now in
    let n = c.loop-word._word in
    let word : c.word.result ≡ word_at x n =
    c.word.ensures.word ∙ ap (λ s. word_at s 0) c.loop-word.invariant.draws ∙ word_at_more x n in
    let bytes : c.extend_from_slice.new.self.items ≡ c.loop-word.bytes.items ++ four_bytes c.word.result = search rules in
    record {
      bytes = bytes
          ∙ flat_map_more (λ k. four_bytes (word_at x k)) c.loop-word.bytes.items n (four_bytes c.word.result) c.loop-word.invariant.bytes (ap four_bytes word);
      draws = c.word.ensures.state ∙ ap (λ s. state_after s 3) c.loop-word.invariant.draws ∙ after_one_more x 3 n;
    }
