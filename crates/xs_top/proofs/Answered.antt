-- What one step of a run did at each answer of the outside.
use Rattle.std.proofs.Common.{◌≡◌, ℕ, ◌<◌, ◌≤◌, List, [], ◌∷◌, ◌++◌, length, take, refl, sym, ap, ◌∙◌, ◌⊎◌, inl, inr, Option, Some, None, arith}
use Rattle.std.proofs.lemmas.Bool.Decides.{nat_tests}
use Rattle.std.proofs.lemmas.List.{append-nil}
use Rattle.xs_outside.specs.declared.object.Object.{Object}
use Rattle.xs_outside.specs.Told.{more}
use Rattle.xs_top.specs.declared.status.Status.{Status}
use Rattle.xs_lines.specs.Lines.{with_ends}
use Rattle.xs_top.specs.Writes.{with_bytes, WroteFront, WroteWhole}
use Rattle.xs_top.specs.Trace.{Ask, Place, Outcome, ended, after, Contents, grown, summed}
use Rattle.xs_top.specs.Runs.{Did, StoppedAsking, StoppedPlacing}
use Rattle.xs_levels.specs.Films.{Files}
use Rattle.xs_top.specs.Outcome.{found, asking, placing}
use Rattle.xs_top.proofs.Parts.{more-nothing, did_nothing}

-- ---- a file is asked for

told_ask : (seen : Contents) (name : List ℕ) (now : Option (List (List ℕ))) → now ≡ more seen.asked (name ∷ [])
    → record seen { asked = now } ≡ grown seen (Ask name ∷ [])
told_ask seen name now e = let tells : Option (List (List ℕ)) → Contents = λ asked. record seen { asked = asked } in simp more-nothing (ap tells e)

module _ (limit : ℕ) (absent too_long : Status) (next : List ℕ → Outcome) where
  pub found_absent : (file : Option (List ℕ)) → file ≡ None → found file limit absent too_long next ≡ ended absent
  found_absent file e = rw e refl

  pub found_there : (file : Option (List ℕ)) (bytes : List ℕ) → file ≡ Some bytes → length bytes ≤ limit → found file limit absent too_long next ≡ next bytes
  found_there file bytes e within = rw e (grind (arith, nat_tests))

  pub found_too_long : (file : Option (List ℕ)) (bytes : List ℕ) → file ≡ Some bytes → limit < length bytes
      → found file limit absent too_long next ≡ ended too_long
  found_too_long file bytes e beyond = rw e (grind (arith, nat_tests))

  pub asked_found : (files : Files) (name : List ℕ) (seen : Contents) (now : Option (List (List ℕ))) (left : Outcome)
      → found (files name) limit absent too_long next ≡ left → now ≡ more seen.asked (name ∷ [])
      → Did (asking files name limit absent too_long next) left seen (record seen { asked = now })
  unfolding asking
  asked_found files name seen now left e asked =
      record { done = Ask name ∷ []; split = ap (after (Ask name ∷ [])) e; told = told_ask seen name now asked }

  pub asked_failed : (files : Files) (name : List ℕ) (seen : Contents) (now : Option (List (List ℕ))) → now ≡ more seen.asked (name ∷ [])
      → StoppedAsking (asking files name limit absent too_long next) seen (record seen { asked = now })
  unfolding asking
  asked_failed files name seen now asked =
      record { name = name; left = found (files name) limit absent too_long next; whole = seen; did = did_nothing _ _; asked = told_ask seen name now asked }

  pub asked_memory : (files : Files) (name : List ℕ) (seen : Contents) (now : Option (List (List ℕ)))
      → (now ≡ seen.asked) ⊎ (now ≡ more seen.asked (name ∷ []))
      → (left : Outcome) × Did (asking files name limit absent too_long next) left seen (record seen { asked = now })
  asked_memory files name seen now (inl e) = (asking files name limit absent too_long next, rw e (did_nothing _ _))
  asked_memory files name seen now (inr e) =
      (found (files name) limit absent too_long next, asked_found files name seen now _ refl e)

-- ---- a file is put on the shelf

module _ (object : Object) (next : Outcome) (seen : Contents) (now : Option (List Object)) where
  pub placed_done : now ≡ more seen.shelf (object ∷ [])
      → Did (placing object next) next seen (record seen { shelf = now; sum = summed seen.sum (object ∷ []) })
  unfolding placing
  placed_done e =
      let tells : Option (List Object) → Contents = λ shelf. record seen { shelf = shelf; sum = summed seen.sum (object ∷ []) } in
      record { done = Place object ∷ []; split = refl; told = simp more-nothing (ap tells e) }

  pub placed_failed : now ≡ seen.shelf → StoppedPlacing (placing object next) seen (record seen { shelf = now })
  unfolding placing
  placed_failed e = record { object = object; left = next; did = rw e (did_nothing _ _) }

  pub placed_memory : now ≡ seen.shelf → Did (placing object next) (placing object next) seen (record seen { shelf = now })
  placed_memory e = rw e (did_nothing _ _)

-- ---- a line is written

module _ (line : List ℕ) (seen : Contents) (now : Option (List ℕ)) where
  abbrev tells : Option (List ℕ) → Contents
  tells notes = record seen { notes = notes }

  pub noted_done : now ≡ more seen.notes (line ++ 10 ∷ []) → record seen { notes = now } ≡ with_bytes seen (with_ends (line ∷ []))
  noted_done e = ap tells (e ∙ ap (more seen.notes) (sym (append-nil (line ++ 10 ∷ []))))

  pub noted_failed : (written : ℕ) × (now ≡ more seen.notes (take written (line ++ 10 ∷ []))) → WroteFront (line ∷ []) seen (record seen { notes = now })
  noted_failed part = record {
    bytes = take part.0 (line ++ 10 ∷ []);
    front = record { done = []; line = line; rest = []; split = refl; written = part.0; are = refl };
    told = ap tells part.1;
  }

  pub noted_memory : now ≡ seen.notes → WroteWhole (line ∷ []) seen (record seen { notes = now })
  noted_memory e = (
    record {
      bytes = [];
      front = record { done = []; line = line; rest = []; split = refl; written = 0; are = refl };
      told = ap tells (e ∙ sym (more-nothing seen.notes));
    },
    refl,
  )
