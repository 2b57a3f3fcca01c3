-- Each alias's drawing is taken once, and each section starts with the first alias that comes in it or later.
use Rattle.std.proofs.Common.{◌≡◌, ◌<◌, ◌+◌, ◌-◌, ◌++◌, [], false, length, take, replicate, slice_index, sym, ap, ap₂, ◌∙◌, ⊎_elim, arith}
use Rattle.std.proofs.lemmas.Bool.{cases_lt}
use Rattle.std.proofs.lemmas.List.{get_or_read, get_or-replicate, length-replicate, length-append}
use Rattle.xs_base.specs.Once.{each_once}
use Rattle.xs_base.proofs.OnceLemmas.{with_each-nil}
use Rattle.xs_plan.specs.Record.{entry_at, drawing_of}
use Rattle.xs_plan.specs.Kept.{drawings_in, with_drawing}
use Rattle.xs_plan.proofs.NeedLemmas.{each_once-drawings_more, length-with_drawing, AreStarts-more}
use Rattle.xs_plan.proofs.news.News.of.Goals as goal

pub loop-k-init : goal.loop-k-init
loop-k-init c =
    record {
      drawings = c.new-news.ensures.items ∙ sym (with_each-nil []);
      flags =
          rw (c.in_ok-known.ensures, c.new-news.ensures.items)
          (record { flag = λ d lt. get_or-replicate c.args.drawings d false false (omega (arith, length-replicate c.args.drawings false)) });
      flags_many = ap length c.in_ok-known.ensures ∙ length-replicate c.args.drawings false;
      starts = record { start = λ s lt. absurd (omega (arith, ap length c.new-starts.ensures.items)) };
      opened = λ j lt. absurd (omega arith);
      short = omega (arith, ap length c.new-starts.ensures.items);
      few = omega (arith, ap length c.new-news.ensures.items);
    }

pub overflow_add-index : goal.overflow_add-index
overflow_add-index c =
    let firsts = c.args.firsts.now.items in
    let k = c.loop-k.k in
    let lt : k < length c.args.aliases.now.entries = omega (arith, c.len-k-end.ensures.count) in
    let there : k < length firsts = omega (arith, c.requires.firsts.many) in
    let first = get_or_read firsts k c.index.result.now there c.index.ensures 0 in
    omega (arith, c.requires.firsts.below k lt)

pub loop-k-preserved : goal.loop-k-preserved
loop-k-preserved c =
    let entries = c.args.aliases.now.entries in
    let firsts = c.args.firsts.now.items in
    let was = c.loop-k.invariant in
    let k = c.loop-k.k in
    let starts = c.loop-k.starts.items in
    let lt : k < length entries = omega (arith, c.len-k-end.ensures.count) in
    let there : k < length firsts = omega (arith, c.requires.firsts.many) in
    let first : c.index.result.now ≡ slice_index firsts k = get_or_read firsts k c.index.result.now there c.index.ensures 0 in
    let count : c.len.result ≡ length (each_once (drawings_in (take k entries))) =
    omega (arith, c.len.ensures, c.loop-k.news.ok.0, ap length was.drawings) in
    let below : c.index.result.now + 1 ≡ slice_index firsts k + 1 = omega arith in
    let parts : c.start_sections.new.starts.items
    ≡ starts ++ replicate ((slice_index firsts k + 1) - length starts) (length (each_once (drawings_in (take k entries)))) =
    c.in_ok-start_sections.ensures ∙ ap₂ (λ b n. starts ++ replicate (b - length starts) n) below count in
    let more = replicate ((slice_index firsts k + 1) - length starts) (length (each_once (drawings_in (take k entries)))) in
    let long = ap length parts ∙ length-append starts more in
    let copies = length-replicate ((slice_index firsts k + 1) - length starts) (length (each_once (drawings_in (take k entries)))) in
    let needed : c.needed_drawing.result ≡ drawing_of (entry_at entries k).job =
    c.needed_drawing.ensures ∙ ap drawing_of c.job.ensures in
    let drawings : c.take_drawing.new.drawings.items ≡ with_drawing c.loop-k.news.items (drawing_of (entry_at entries k).job) =
    c.in_ok-take_drawing.ensures.taken ∙ ap (λ o. with_drawing c.loop-k.news.items o) needed in
    record {
      drawings =
          drawings ∙ ap (λ l. with_drawing l (drawing_of (entry_at entries k).job)) was.drawings
          ∙ sym (each_once-drawings_more entries k lt);
      flags = c.in_ok-take_drawing.ensures.flags;
      flags_many = c.in_ok-take_drawing.ensures.many ∙ was.flags_many;
      starts =
          rw parts
          (AreStarts-more was.starts k (slice_index firsts k + 1) (omega arith) was.opened
          (λ j from in_list. let h = c.requires.firsts.rise k j from in_list in omega arith));
      opened = λ j below_next.
          ⊎_elim (λ before. let h = was.opened j before in omega arith)
          (λ here.
          let number : j ≡ k = omega arith in
          let same = ap (λ n. slice_index firsts n) number in
          omega arith)
          (cases_lt j k);
      short = omega (arith, was.short, c.requires.firsts.below k lt);
      few = omega (arith, was.few, ap length drawings, length-with_drawing c.loop-k.news.items (drawing_of (entry_at entries k).job));
    }

pub returns-clause-starts : goal.returns-clause-starts
returns-clause-starts c =
    let entries = c.args.aliases.now.entries in
    let was = c.loop-k.invariant in
    let k = c.loop-k.k in
    let starts = c.loop-k.starts.items in
    let here : k ≡ length entries = omega (arith, c.len-k-end.ensures.count) in
    let count : c.len-2.result ≡ length (each_once (drawings_in (take k entries))) =
    omega (arith, c.len-2.ensures, c.loop-k.news.ok.0, ap length was.drawings) in
    let parts : c.start_sections-2.new.starts.items
    ≡ starts ++ replicate ((c.args.sections + 1) - length starts) (length (each_once (drawings_in (take k entries)))) =
    c.in_ok-start_sections-2.ensures ∙ ap (λ n. starts ++ replicate ((c.args.sections + 1) - length starts) n) count in
    rw parts (AreStarts-more was.starts k (c.args.sections + 1) (omega arith) was.opened (λ j from in_list. absurd (omega arith)))
