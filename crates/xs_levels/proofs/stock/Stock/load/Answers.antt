use Rattle.std.proofs.Common.{◌≡◌, ◌∙◌, ◌<◌, ◌≤◌, ◌+◌, ◌++◌, ℕ, List, Some, length, take, get_or, slice_get, refl, sym, ap, subst, arith}
use Rattle.std.proofs.lemmas.Option.{slice_get-get_or}
use Rattle.xs_plan.specs.Needed.{new_drawings, needs_before}
use Rattle.xs_levels.specs.Stocked.{IsStockOf}
use Rattle.xs_levels.specs.Loading.{Passed, IsRefused}
use Rattle.xs_levels.proofs.Passing.{passed_none, more-none, names_next, stock_next}
use Rattle.xs_levels.proofs.Refusing.{few_new, may_take, stock_begun, stock_whole, refused_loaded, refused_asked, refused_place, told_next}
use Rattle.xs_levels.proofs.Ending.{stock_after, stock_loaded}
use Rattle.xs_levels.proofs.stock.Stock.load.Goals as goal

pub overflow_cast-at-end : goal.overflow_cast-at-end
overflow_cast-at-end g c =
    let few = few_new c.args.p.now c.args.s in
    let long = ap length c.new_drawings-news.ensures in
    record { fits = omega (arith, few, long, c.aliases-aliases.ensures.valid.few_aliases) }

pub loop-at-init : goal.loop-at-init
loop-at-init g c =
    let t = g.F.FileTable.told c.args.table.now in
    record {
      news = c.new_drawings-news.ensures;
      stock = stock_begun c.args.p.now t c.args.s c.args.self.now c.requires.stock c.requires.next c.requires.ended;
      told = λ files e. (
        passed_none files t c.args.self.now.limit c.args.self.now.bytes (new_drawings c.args.p.now c.args.s) c.requires.stock.stock.counted.few,
        omega arith,
      );
      asked = more-none (g.L.Library.asked c.args.lib.now);
      same = refl;
      faults = refl;
      limit = refl;
      loaded = refl;
      ended = refl;
    }

pub load_drawing-requires-clause-may : goal.load_drawing-requires-clause-may
load_drawing-requires-clause-may g c =
    let at = c.loop-at.at in
    let inv = c.loop-at.invariant in
    let news = new_drawings c.args.p.now c.args.s in
    let d = get_or c.new_drawings-news.result.now at 0 in
    let is : d ≡ get_or news at 0 = ap (λ (xs : List ℕ). get_or xs at 0) inv.news in
    let long : length c.new_drawings-news.result.now ≡ length news = ap length inv.news in
    let within : at < length news = omega (arith, c.loop-at-test.true, long) in
    may_take c.args.p.now (g.F.FileTable.told c.args.table.now) c.args.s at d c.args.self.now c.aliases-aliases.ensures.valid c.requires.stock
    c.loop-at.self c.requires.section c.requires.drawings within is inv.stock

pub returns-in-Err-clause-told : goal.returns-in-Err-clause-told
returns-in-Err-clause-told g c = λ files e.
    let t = g.F.FileTable.told c.args.table.now in
    let at = c.loop-at.at in
    let inv = c.loop-at.invariant in
    let news = new_drawings c.args.p.now c.args.s in
    let d = get_or c.new_drawings-news.result.now at 0 in
    let is : d ≡ get_or news at 0 = ap (λ (xs : List ℕ). get_or xs at 0) inv.news in
    let long : length c.new_drawings-news.result.now ≡ length news = ap length inv.news in
    let within : at < length news = omega (arith, c.loop-at-test.true, long) in
    let there : slice_get news at ≡ Some d = slice_get-get_or news at 0 within ∙ ap Some (sym is) in
    let told = inv.told files e in
    let why =
    subst (λ (n : ℕ). IsRefused files t n c.loop-at.self.bytes d c.in-Err.refusal) inv.limit (c.in-Err.ensures.refused files (inv.same ∙ e)) in
    rw c.answer.ensures
    (refused_loaded files t c.args.self.now.limit c.args.self.now.bytes c.loop-at.self.bytes news at d c.in-Err.refusal told.0 within is there told.1 why)

pub returns-in-Err-clause-place : goal.returns-in-Err-clause-place
returns-in-Err-clause-place g c =
    let at = c.loop-at.at in
    let inv = c.loop-at.invariant in
    let news = new_drawings c.args.p.now c.args.s in
    let d = get_or c.new_drawings-news.result.now at 0 in
    let is : d ≡ get_or news at 0 = ap (λ (xs : List ℕ). get_or xs at 0) inv.news in
    let long : length c.new_drawings-news.result.now ≡ length news = ap length inv.news in
    let within : at < length news = omega (arith, c.loop-at-test.true, long) in
    let there : slice_get news at ≡ Some d = slice_get-get_or news at 0 within ∙ ap Some (sym is) in
    rw c.answer.ensures (refused_place news at d c.in-Err.refusal within there)

pub returns-in-Err-clause-asked : goal.returns-in-Err-clause-asked
returns-in-Err-clause-asked g c =
    let at = c.loop-at.at in
    let inv = c.loop-at.invariant in
    let news = new_drawings c.args.p.now c.args.s in
    let d = get_or c.new_drawings-news.result.now at 0 in
    let is : d ≡ get_or news at 0 = ap (λ (xs : List ℕ). get_or xs at 0) inv.news in
    let long : length c.new_drawings-news.result.now ≡ length news = ap length inv.news in
    let within : at < length news = omega (arith, c.loop-at-test.true, long) in
    rw c.answer.ensures
    (refused_asked (g.F.FileTable.told c.args.table.now) news at d c.in-Err.refusal (g.L.Library.asked c.args.lib.now)
    (g.L.Library.asked c.loop-at.lib) (g.L.Library.asked c.load_drawing.new.lib) within is inv.asked c.in-Err.ensures.asked)

pub loop-at-preserved : goal.loop-at-preserved
loop-at-preserved g c =
    let t = g.F.FileTable.told c.args.table.now in
    let at = c.loop-at.at in
    let inv = c.loop-at.invariant in
    let news = new_drawings c.args.p.now c.args.s in
    let d = get_or c.new_drawings-news.result.now at 0 in
    let is : d ≡ get_or news at 0 = ap (λ (xs : List ℕ). get_or xs at 0) inv.news in
    let long : length c.new_drawings-news.result.now ≡ length news = ap length inv.news in
    let within : at < length news = omega (arith, c.loop-at-test.true, long) in
    let taken = c.in-Ok.ensures.taken in
    let limit = taken.1.limit ∙ inv.limit in
    let few : c.load_drawing.new.self.bytes ≤ c.args.self.now.limit = omega (arith, taken.1.counted.few, limit) in
    record {
      news = inv.news;
      stock = stock_next c.args.p.now t c.args.s at c.loop-at.self c.load_drawing.new.self d taken.0 c.requires.section within is inv.stock taken.1;
      told = λ files e.
          told_next files t c.args.self.now.limit c.args.self.now.bytes news at d c.loop-at.self.bytes c.load_drawing.new.self.bytes within is
          (inv.told files e) few taken.0 taken.1.bytes (taken.2 files (inv.same ∙ e));
      asked = names_next t news at d (g.L.Library.asked c.args.lib.now) (g.L.Library.asked c.loop-at.lib) (g.L.Library.asked c.load_drawing.new.lib)
          within is inv.asked c.in-Ok.ensures.asked;
      same = c.in-Ok.ensures.same ∙ inv.same;
      faults = c.in-Ok.ensures.faults ∙ inv.faults;
      limit = limit;
      loaded = taken.1.loaded ∙ inv.loaded;
      ended = taken.1.ended ∙ inv.ended;
    }

pub returns-clause-told : goal.returns-clause-told
returns-clause-told g c = λ files e.
    let t = g.F.FileTable.told c.args.table.now in
    let inv = c.loop-at.invariant in
    let news = new_drawings c.args.p.now c.args.s in
    let long : length c.new_drawings-news.result.now ≡ length news = ap length inv.news in
    let over : c.loop-at.at ≡ length news = omega (arith, c.loop-at-test.false, c.loop-at.auto.at-end, long) in
    subst (λ (n : ℕ). Passed files t c.args.self.now.limit c.args.self.now.bytes news n) over (inv.told files e).0

pub returns-clause-stock : goal.returns-clause-stock
returns-clause-stock g c = λ done.
    let p = c.args.p.now in
    let t = g.F.FileTable.told c.args.table.now in
    let inv = c.loop-at.invariant in
    let news = new_drawings p c.args.s in
    let long : length c.new_drawings-news.result.now ≡ length news = ap length inv.news in
    let past : length news ≤ c.loop-at.at = omega (arith, c.loop-at-test.false, long) in
    let whole = stock_whole p t c.args.s c.loop-at.at c.loop-at.self past inv.stock in
    let after = stock_after p t c.args.s c.loop-at.self c.requires.stock.table (inv.ended ∙ c.requires.ended) whole in
    rw (← c.self.view_is) at after

pub returns-clause-holds : goal.returns-clause-holds
returns-clause-holds g c = λ done.
    let p = c.args.p.now in
    let t = g.F.FileTable.told c.args.table.now in
    let inv = c.loop-at.invariant in
    let news = new_drawings p c.args.s in
    let long : length c.new_drawings-news.result.now ≡ length news = ap length inv.news in
    let past : length news ≤ c.loop-at.at = omega (arith, c.loop-at-test.false, long) in
    let whole = stock_whole p t c.args.s c.loop-at.at c.loop-at.self past inv.stock in
    let holds = stock_loaded p t c.args.s c.loop-at.self c.requires.section whole in
    rw (← c.self.view_is) at holds
