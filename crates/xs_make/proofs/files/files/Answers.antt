use Rattle.std.proofs.Common.{◌≡◌, ◌+◌, ◌*◌, [], ◌∷◌, ◌++◌, map, refl, ap, ap₂, ◌∙◌, rules, arith}
use Rattle.std.specs.List.{range_with_len}
use Rattle.xs_make.specs.Draws.{state_after}
use Rattle.xs_make.specs.Files.{background_from, background_name, cel_file, cel_from, file_of}
use Rattle.xs_make.proofs.Drawn.{map_more, state_after_more}
use Rattle.xs_make.proofs.files.files.Goals as goal

pub loop-m-init : goal.loop-m-init
loop-m-init c =
    let file : c.in_ok-file.field-0 ≡ file_of background_name (background_from c.args.draws.now) =
    c.in_ok-file.ensures ∙ ap (file_of background_name) c.in_ok-drawing.ensures.drawing in
    let items : c.push.new.self.items ≡ c.in_ok-file.field-0 ∷ [] =
    c.in_ok-push.ensures.items ∙ ap (λ fs. fs ++ c.in_ok-file.field-0 ∷ []) c.new-files.ensures.items in
    record { files = items ∙ ap (λ f. f ∷ []) file; draws = c.in_ok-drawing.ensures.state }

pub loop-m-preserved : goal.loop-m-preserved
loop-m-preserved c =
    let x = c.args.draws.now in
    let m = c.loop-m.m in
    let drawing = c.in_ok-drawing-2.ensures.drawing ∙ ap cel_from c.loop-m.invariant.draws in
    let file : c.in_ok-file-2.field-0 ≡ cel_file x m =
    c.in_ok-file-2.ensures ∙ ap₂ file_of (c.as_str.ensures.value ∙ c.in_ok-name.ensures) drawing in
    let items : c.push-in-loop-m.new.self.items ≡ c.loop-m.files.items ++ c.in_ok-file-2.field-0 ∷ [] = search rules in
    let same : 24576 + 12290 * m + 12290 ≡ 24576 + 12290 * (m + 1) = omega arith in
    record {
      files = items ∙ ap (λ fs. fs ++ c.in_ok-file-2.field-0 ∷ []) c.loop-m.invariant.files
          ∙ ap (λ fs. file_of background_name (background_from x) ∷ fs) (map_more (cel_file x) _ 0 m m c.in_ok-file-2.field-0 (omega arith) refl file);
      draws = c.in_ok-drawing-2.ensures.state ∙ ap (λ s. state_after s 12290) c.loop-m.invariant.draws
          ∙ state_after_more x (24576 + 12290 * m) 12290 ∙ ap (state_after x) same;
    }

pub returns-clause-files : goal.returns-clause-files
returns-clause-files c =
    let x = c.args.draws.now in
    let all : c.loop-m.m ≡ 12 = omega arith in
    c.loop-m.invariant.files ∙ ap (λ n. file_of background_name (background_from x) ∷ map (cel_file x) (range_with_len 0 n)) all
