use Rattle.std.proofs.Common.{◌≡◌, ◌+◌, ◌-◌, ◌++◌, ◌∷◌, [], length, ap, sym, ◌∙◌, arith}
use Rattle.xs_lines.specs.Lines.{alias_line, alias_lines, with_ends}
use Rattle.xs_lines.specs.Parts.{tail_text}
use Rattle.xs_lines.proofs.LineLists.{first_line, one_more_line}
use Rattle.xs_lines.proofs.PartLemmas.{ends_with_tail, line_of_parts}
use Rattle.xs_lines.proofs.lines.fill_lines.Goals as goal

pub loop-next-init : goal.loop-next-init
loop-next-init c =
    let p = c.args.p.now in
    let from = c.args.from in
    let one : from + 1 - from ≡ 1 = omega arith in
    let here : from + 1 - 1 ≡ from = omega arith in
    let long : c.len-tail.result ≡ length (tail_text p from) = c.len-tail.ensures ∙ ap length c.put_tail.ensures.text in
    let line = line_of_parts p from _ _ c.put_head.ensures.text c.put_tail.ensures.text in
    record {
      after = omega arith;
      within = omega arith;
      lines = rw (one, c.in_ok-extend_from_slice.ensures.items, c.clear.ensures.items, c.bytes.ensures)
          (first_line p from c.put_head.new.line line);
      short = omega arith;
      tail = rw here (ends_with_tail p from [] _ _ line long);
    }

pub loop-next-preserved : goal.loop-next-preserved
loop-next-preserved c =
    let p = c.args.p.now in
    let from = c.args.from in
    let n = c.loop-next.next - from in
    let here : c.loop-next.next ≡ from + n = omega arith in
    let later : c.loop-next.next + 1 - from ≡ n + 1 = omega arith in
    let now : c.loop-next.next + 1 - 1 ≡ c.loop-next.next = omega arith in
    let more : c.extend_from_slice-in-loop-next.new.self.items ≡ c.loop-next.text.items ++ 10 ∷ alias_line p c.loop-next.next =
    c.in_ok-extend_from_slice-2.ensures.items ∙ ap (λ line. c.loop-next.text.items ++ line) (c.bytes-in-loop-next.ensures ∙ c.put_next-tail.ensures.text) in
    record {
      after = omega arith;
      within = omega arith;
      lines = ap (λ text. text ++ 10 ∷ []) (more ∙ ap (λ k. c.loop-next.text.items ++ 10 ∷ alias_line p k) here)
          ∙ one_more_line p from n c.loop-next.text.items c.loop-next.invariant.lines
          ∙ sym (ap (λ k. with_ends (alias_lines p from k)) later);
      short = c.put_next-tail.ensures.short;
      tail = rw now c.put_next-tail.ensures.tail;
    }
