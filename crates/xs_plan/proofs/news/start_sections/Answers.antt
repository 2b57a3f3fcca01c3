-- One section more starts after these drawings.
use Rattle.std.proofs.Common.{◌≡◌, ◌≤◌, ◌+◌, ◌-◌, [], ◌∷◌, ◌++◌, replicate, vec_len, sym, ap, ◌∙◌, append_assoc, arith}
use Rattle.std.proofs.lemmas.List.{replicate_more}
use Rattle.xs_plan.proofs.news.start_sections.Goals as goal

pub loop-section-preserved : goal.loop-section-preserved
loop-section-preserved c =
    let old = c.args.starts.now in
    let section = c.loop-section._section in
    let count = c.args.drawings in
    let from : vec_len old ≤ section = omega (arith, c.len-section.ensures) in
    let next : section + 1 - vec_len old ≡ (section - vec_len old) + 1 = omega arith in (
      c.in_ok-push.ensures.items ∙ ap (λ l. l ++ count ∷ []) c.loop-section.invariant.0
          ∙ append_assoc old.items (replicate (section - vec_len old) count) (count ∷ [])
          ∙ ap (λ l. old.items ++ l) (replicate_more (section - vec_len old) count ∙ ap (λ n. replicate n count) (sym next)),
      λ past. absurd (omega arith),
    )
