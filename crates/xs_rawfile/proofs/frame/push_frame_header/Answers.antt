use Rattle.std.proofs.Common.{◌≡◌, ℕ, List, ◌++◌, ◌∷◌, append_assoc, ap, ap₂, ◌∙◌}
use Rattle.xs_rawfile.proofs.frame.push_frame_header.Goals as goal

put_last :
    (old a b c first second third : List ℕ) → first ≡ old ++ a → second ≡ first ++ b → third ≡ second ++ c
    → third ≡ old ++ (a ++ (b ++ c))
put_last old a b c first second third one two three =
    three ∙ ap (λ l. l ++ c) (two ∙ ap (λ l. l ++ b) one)
    ∙ append_assoc (old ++ a) b c ∙ append_assoc old a (b ++ c)

pub returns : goal.returns
returns c =
    put_last c.args.bytes.now.items _ _ _ c.extend_from_slice.new.self.items c.extend_from_slice-2.new.self.items _
    c.in_ok-extend_from_slice.ensures.items c.in_ok-extend_from_slice-2.ensures.items c.in_ok-extend_from_slice-3.ensures.items
    ∙ ap₂ (λ ws hs. c.args.bytes.now.items ++ 88 ∷ 70 ∷ 82 ∷ 49 ∷ (ws ++ hs)) c.to_le_bytes.ensures c.to_le_bytes-2.ensures
