use Rattle.std.proofs.Common.{All, refl, sym, subst, arith}
use Rattle.std.proofs.lemmas.List.{take_all}
use Rattle.std.proofs.lemmas.List.Elements.{All-more}
use Rattle.xs_check.specs.Shared.{IsSheetInOrder, IsSheetApart}
use Rattle.xs_check.proofs.shared.sheets_apart.Goals as goal

pub sheet_apart-requires : goal.sheet_apart-requires
sheet_apart-requires c =
    subst IsSheetInOrder (sym c.lists-item.is) (c.requires c.loop-lists.lists-index c.lists-item.result (omega arith))

pub returns-then-not-sheet_apart : goal.returns-then-not-sheet_apart
returns-then-not-sheet_apart c = (
  λ no. absurd (cc),
  λ all.
      absurd
      (let yes = c.sheet_apart.ensures.1 (subst IsSheetApart (sym c.lists-item.is) (all c.loop-lists.lists-index c.lists-item.result (omega arith))) in
      let no = c.if-not-sheet_apart.true in
      cc),
)

pub loop-lists-preserved : goal.loop-lists-preserved
loop-lists-preserved c =
    All-more IsSheetApart c.args.sheets.now c.loop-lists.lists-index c.lists-item.result (omega arith) c.loop-lists.invariant
    (subst IsSheetApart c.lists-item.is (c.sheet_apart.ensures.0 c.if-not-sheet_apart.false))

pub returns : goal.returns
returns c =
    let all : All IsSheetApart c.args.sheets.now =
    subst (All IsSheetApart) (take_all c.loop-lists.lists-index c.args.sheets.now (omega arith)) c.loop-lists.invariant
    in (λ yes. all, λ h. refl)
