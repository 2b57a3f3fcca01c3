-- The drawings of visited aliases are those of the visited expressions, in the order of a walk
use Rattle.std.proofs.Common.{◌≡◌, ℕ, ◌<◌, Option, Some, None, List, [], ◌∷◌, ◌++◌, All, Contains, length, filter_map, refl, sym, ap, ◌∙◌, subst, ⊎_elim, arith}
use Rattle.std.proofs.lemmas.Bool.{cond_both}
use Rattle.std.proofs.lemmas.List.{append-nil, append_assoc, append_cancel_left}
use Rattle.std.proofs.lemmas.List.Elements.{filter_map-append, Contains-append_left, Contains-push_cases, All-weaker}
use Rattle.xs_base.specs.Once.{fresh, with_each}
use Rattle.xs_rect.specs.Area.{Area, grown}
use Rattle.xs_meaning.specs.Expressions.{Expr, Clear, Leaf, Tinted, Card, Pair, Blur, drawings_of}
use Rattle.xs_demand.specs.Aliases.{Alias, alias, stands_in, visiting, visit, visit_tiles, visit_rows}
use Rattle.xs_demand.specs.Images.{drawings_in}
use Rattle.xs_demand.proofs.SameLemmas.{Decides-stands_in}

-- what the law of numbers that are taken once says
pub record TakenOnce : Type 0 where
  pub new : (known xs ys : List ℕ) → fresh known (xs ++ ys) ≡ fresh known xs ++ fresh (known ++ fresh known xs) ys
  pub all : (known xs ys : List ℕ) → fresh known (xs ++ ys) ≡ fresh known xs ++ fresh (known ++ xs) ys
  pub nothing : (known xs : List ℕ) → All (Contains known) xs → fresh known xs ≡ []
  pub found : (known xs : List ℕ) → All (Contains (known ++ fresh known xs)) xs

-- the drawing that an expression itself shows
abbrev pub own_drawing : Expr → Option ℕ
own_drawing (Leaf d at) = Some d
own_drawing (Tinted d at tint) = Some d
own_drawing _ = None

abbrev pub own_drawings : List Alias → List ℕ
own_drawings l = filter_map (λ x. own_drawing x.expr) l

pub own_drawings-append : (l m : List Alias) → own_drawings (l ++ m) ≡ own_drawings l ++ own_drawings m
own_drawings-append l m = filter_map-append (λ (x : Alias). own_drawing x.expr) l m

-- these, each once
abbrev pub drawn : List Alias → List ℕ
drawn l = fresh [] (own_drawings l)

-- a list has the drawings of each of its expressions
abbrev pub IsDrawn : List Alias → Type 0
IsDrawn l = (x : Alias) → Contains l x → All (Contains (drawn l)) (drawings_of x.expr)

nothing_before : (ds : List ℕ) → with_each (drawn []) ds ≡ fresh [] ds
unfolding fresh
nothing_before ds = refl

module _ (once : TakenOnce) where
  with_each-append : (known xs ys : List ℕ) → with_each (with_each known xs) ys ≡ with_each known (xs ++ ys)
  with_each-append known xs ys =
      append_assoc known (fresh known xs) (fresh (known ++ fresh known xs) ys) ∙ ap (λ zs. known ++ zs) (sym (once.new known xs ys))

  with_each-known : (known xs : List ℕ) → All (Contains known) xs → with_each known xs ≡ known
  with_each-known known xs all = ap (λ zs. known ++ zs) (once.nothing known xs all) ∙ append-nil known

  drawn-append : (l m : List Alias) → drawn (l ++ m) ≡ with_each (drawn l) (own_drawings m)
  drawn-append l m = ap (fresh []) (own_drawings-append l m) ∙ once.new [] (own_drawings l) (own_drawings m)

  -- a list has become another by visits that show some drawings
  pub record Draws (ds : List ℕ) (l m : List Alias) : Type 0 where
    pub is_drawn : IsDrawn m
    pub draws : drawn m ≡ with_each (drawn l) ds

  draws-again : (ds : List ℕ) (l : List Alias) → IsDrawn l → All (Contains (drawn l)) ds → Draws ds l l
  draws-again ds l is all = record { is_drawn = is; draws = sym (with_each-known (drawn l) ds all) }

  draws-none : (l : List Alias) → IsDrawn l → Draws [] l l
  draws-none l is = draws-again [] l is (λ k d lt. absurd (omega arith))

  draws-then : (ds es : List ℕ) (l m n : List Alias) → Draws ds l m → Draws es m n → Draws (ds ++ es) l n
  draws-then ds es l m n first second =
      record {
        is_drawn = second.is_drawn;
        draws =
            second.draws ∙ ap (λ known. with_each known es) first.draws ∙ with_each-append (drawn l) ds es;
      }

  -- an alias is appended after its inputs
  draws-push :
      (x : Alias) (ds os : List ℕ) (l m : List Alias) → own_drawings (x ∷ []) ≡ os → drawings_of x.expr ≡ ds ++ os
      → Draws ds l m → Draws (drawings_of x.expr) l (m ++ x ∷ [])
  draws-push x ds os l m own parts before =
      record { is_drawn = λ y there. ⊎_elim (old y) (new y) (Contains-push_cases m x y there); draws = whole }
    where
      longer : drawn (m ++ x ∷ []) ≡ with_each (drawn m) os
      longer = drawn-append m (x ∷ []) ∙ ap (with_each (drawn m)) own

      whole : drawn (m ++ x ∷ []) ≡ with_each (drawn l) (drawings_of x.expr)
      whole =
          longer ∙ ap (λ known. with_each known os) before.draws ∙ with_each-append (drawn l) ds os
          ∙ ap (with_each (drawn l)) (sym parts)

      old : (y : Alias) → Contains m y → All (Contains (drawn (m ++ x ∷ []))) (drawings_of y.expr)
      old y there =
          All-weaker (Contains (drawn m)) (Contains (drawn (m ++ x ∷ [])))
          (λ d has. subst (λ zs. Contains zs d) (sym longer) (Contains-append_left (drawn m) (fresh (drawn m) os) d has))
          (drawings_of y.expr) (before.is_drawn y there)

      new : (y : Alias) → x ≡ y → All (Contains (drawn (m ++ x ∷ []))) (drawings_of y.expr)
      new y same =
          subst (λ (z : Alias). All (Contains (drawn (m ++ x ∷ []))) (drawings_of z.expr)) same
          (subst (λ zs. All (Contains zs) (drawings_of x.expr)) (sym whole) (once.found (drawn l) (drawings_of x.expr)))

  draws-visiting :
      (x : Alias) (ds os : List ℕ) (l m : List Alias) → own_drawings (x ∷ []) ≡ os → drawings_of x.expr ≡ ds ++ os
      → IsDrawn l → Draws ds l m → Draws (drawings_of x.expr) l (visiting x l m)
  draws-visiting x ds os l m own parts is before =
      cond_both (stands_in l x) l (m ++ x ∷ []) (Draws (drawings_of x.expr) l)
      (λ there. draws-again (drawings_of x.expr) l is (is x ((Decides-stands_in l x).0 there)))
      (λ not_there. draws-push x ds os l m own parts before)

  pub draws-visit : (e : Expr) (rect : Area) (l : List Alias) → IsDrawn l → Draws (drawings_of e) l (visit e rect l)
  unfolding visit
  draws-visit Clear rect l is = draws-visiting (alias Clear rect) [] [] l l refl refl is (draws-none l is)
  draws-visit (Leaf d at) rect l is = draws-visiting (alias (Leaf d at) rect) [] (d ∷ []) l l refl refl is (draws-none l is)
  draws-visit (Tinted d at tint) rect l is =
      draws-visiting (alias (Tinted d at tint) rect) [] (d ∷ []) l l refl refl is (draws-none l is)
  draws-visit (Card pixel) rect l is = draws-visiting (alias (Card pixel) rect) [] [] l l refl refl is (draws-none l is)
  draws-visit (Pair op a b) rect l is =
      let first = draws-visit a rect l is in
      draws-visiting (alias (Pair op a b) rect) (drawings_of a ++ drawings_of b) [] l (visit b rect (visit a rect l))
      refl (sym (append-nil (drawings_of a ++ drawings_of b))) is
      (draws-then (drawings_of a) (drawings_of b) l (visit a rect l) (visit b rect (visit a rect l)) first
      (draws-visit b rect (visit a rect l) first.is_drawn))
  draws-visit (Blur n a) rect l is =
      draws-visiting (alias (Blur n a) rect) (drawings_of a) [] l (visit a (grown rect n) l) refl (sym (append-nil (drawings_of a))) is
      (draws-visit a (grown rect n) l is)

  -- further tiles show nothing new
  draws-tiles_again :
      (e : Expr) (tiles : List Area) (l : List Alias) → IsDrawn l → All (Contains (drawn l)) (drawings_of e)
      → Draws [] l (visit_tiles e tiles l)
  draws-tiles_again e [] l is all = draws-none l is
  draws-tiles_again e (tile ∷ tiles) l is all =
      let first = draws-visit e tile l is in
      let same : drawn (visit e tile l) ≡ drawn l = first.draws ∙ with_each-known (drawn l) (drawings_of e) all in
      let rest =
      draws-tiles_again e tiles (visit e tile l) first.is_drawn (subst (λ zs. All (Contains zs) (drawings_of e)) (sym same) all) in
      record { is_drawn = rest.is_drawn; draws = rest.draws ∙ ap (λ known. with_each known []) same }

  pub draws-tiles :
      (e : Expr) (tiles : List Area) (l : List Alias) → 0 < length tiles → IsDrawn l → Draws (drawings_of e) l (visit_tiles e tiles l)
  draws-tiles e [] l some is = absurd (omega arith)
  draws-tiles e (tile ∷ tiles) l some is =
      let first = draws-visit e tile l is in
      let all : All (Contains (drawn (visit e tile l))) (drawings_of e) =
      subst (λ zs. All (Contains zs) (drawings_of e)) (sym first.draws) (once.found (drawn l) (drawings_of e)) in
      subst (λ ds. Draws ds l (visit_tiles e tiles (visit e tile l))) (append-nil (drawings_of e))
      (draws-then (drawings_of e) [] l (visit e tile l) (visit_tiles e tiles (visit e tile l)) first
      (draws-tiles_again e tiles (visit e tile l) first.is_drawn all))

  pub draws-rows :
      (tiles : List Area) (roots : List Expr) (l : List Alias) → 0 < length tiles → IsDrawn l
      → Draws (drawings_in roots) l (visit_rows tiles roots l)
  draws-rows tiles [] l some is = draws-none l is
  draws-rows tiles (e ∷ roots) l some is =
      let first = draws-tiles e tiles l some is in
      draws-then (drawings_of e) (drawings_in roots) l (visit_tiles e tiles l) (visit_rows tiles roots (visit_tiles e tiles l)) first
      (draws-rows tiles roots (visit_tiles e tiles l) some first.is_drawn)

  -- after some numbers, each once, the same are new as after all of them
  fresh-once : (xs ys : List ℕ) → fresh (fresh [] xs) ys ≡ fresh xs ys
  fresh-once xs ys =
      append_cancel_left (fresh [] xs) (fresh (fresh [] xs) ys) (fresh xs ys) (sym (once.new [] xs ys) ∙ once.all [] xs ys)

  -- what is new among the drawings of the aliases of some rows is what is new in the rows
  pub fresh-rows :
      (tiles : List Area) (earlier roots : List Expr) (added : List Alias) → 0 < length tiles
      → visit_rows tiles roots (visit_rows tiles earlier []) ≡ visit_rows tiles earlier [] ++ added
      → fresh (own_drawings (visit_rows tiles earlier [])) (own_drawings added) ≡ fresh (drawings_in earlier) (drawings_in roots)
  fresh-rows tiles earlier roots added some is =
      let l = visit_rows tiles earlier [] in
      let before = draws-rows tiles earlier [] some (λ x there. absurd (omega (arith, there.1))) in
      let after = draws-rows tiles roots l some before.is_drawn in
      let same : fresh (drawn l) (own_drawings added) ≡ fresh (drawn l) (drawings_in roots) =
      append_cancel_left (drawn l) (fresh (drawn l) (own_drawings added)) (fresh (drawn l) (drawings_in roots))
      (sym (drawn-append l added) ∙ ap drawn (sym is) ∙ after.draws) in
      sym (fresh-once (own_drawings l) (own_drawings added))
      ∙ same
      ∙ ap (λ known. fresh known (drawings_in roots)) (before.draws ∙ nothing_before (drawings_in earlier))
      ∙ fresh-once (drawings_in earlier) (drawings_in roots)
