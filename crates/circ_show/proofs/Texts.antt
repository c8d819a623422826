-- A theory has one text.
use Rattle.std.proofs.Common.{◌≡◌, ℕ, zero, suc, ◌+◌, List, ◌++◌, Bool, true, false, ap, refl, sym, ◌∙◌}
use Rattle.circ_theory.specs.Theory.{Theory}
use Rattle.circ_show.specs.Lines.{unobserved_line}
use Rattle.circ_show.specs.TheoryText.{IsTheoryText, by_number, text_where, parts_text}

same_answer : (a b : Bool) → (a ≡ true → b ≡ true) → (b ≡ true → a ≡ true) → a ≡ b
same_answer true b f g = sym (f refl)
same_answer false true f g = g refl
same_answer false false f g = refl

same_texts : (f g : ℕ → List ℕ) → ((n : ℕ) → f n ≡ g n) → (n k : ℕ) → by_number f n k ≡ by_number g n k
same_texts f g e n zero = refl
same_texts f g e n (suc k) = rw (e n, same_texts f g e (n + 1) k) refl

pub one_text : (th : Theory) (text other : List ℕ) → IsTheoryText th text → IsTheoryText th other → text ≡ other
one_text th text other a b =
    a.is ∙ ap (λ end. parts_text th ++ end) (same_texts (text_where a.unobserved f) (text_where b.unobserved f) told 0 _) ∙ sym b.is
  where
    f : ℕ → List ℕ
    f = unobserved_line th.signature

    told : (n : ℕ) → text_where a.unobserved f n ≡ text_where b.unobserved f n
    told n = rw (same_answer (a.unobserved n) (b.unobserved n) (λ e. (b.tells n).1 ((a.tells n).0 e)) (λ e. (a.tells n).1 ((b.tells n).0 e))) refl
