-- What is printed of two automata.
use Rattle.std.proofs.Common.{◌≡◌, ◌≤◌, ◌+◌, ℕ, zero, suc, List, [], ◌∷◌, ◌++◌, length, drop, codes, refl, ap, sym, ◌∙◌, arith, append_assoc, append-nil, Some, None}
use Rattle.std.specs.Prelude.{flat_map, unwrap_or}
use Rattle.std.specs.List.{slice_get}
use Rattle.circ_auto.specs.Machine.{Machine, Compares}
use Rattle.circ_status.specs.Texts.{differ_text}
use Rattle.circ_status.specs.declared.status.Status.{Status}
use Rattle.circ_status.specs.declared.status.Status.TheVariants as status
use Rattle.circ_reports.specs.Same.{letters_of, IsComparedIn}

-- one letter more
pub letters_step : (m : Machine) (ws : List ℕ) (i x : ℕ) (out new : List ℕ) → drop i ws ≡ x ∷ drop (i + 1) ws
    → new ≡ out ++ (32 ∷ unwrap_or (slice_get m.letters x) [])
    → new ++ flat_map (λ w. 32 ∷ w) (letters_of m (drop (i + 1) ws)) ≡ out ++ flat_map (λ w. 32 ∷ w) (letters_of m (drop i ws))
letters_step m ws i x out new e g =
    ap (λ t. t ++ flat_map (λ w. 32 ∷ w) (letters_of m (drop (i + 1) ws))) g
    ∙ append_assoc out (32 ∷ unwrap_or (slice_get m.letters x) []) (flat_map (λ w. 32 ∷ w) (letters_of m (drop (i + 1) ws)))
    ∙ ap (λ v. out ++ flat_map (λ w. 32 ∷ w) (letters_of m v)) (sym e)

none_behind : (ws : List ℕ) (i : ℕ) → length ws ≤ i → drop i ws ≡ []
none_behind [] zero l = refl
none_behind [] (suc i) l = refl
none_behind (w ∷ ws) zero l = absurd (omega (arith, l))
none_behind (w ∷ ws) (suc i) l = none_behind ws i (omega (arith, l))

-- no letter is left
pub letters_done : (m : Machine) (ws : List ℕ) (i : ℕ) (out : List ℕ) → length ws ≤ i
    → out ≡ out ++ flat_map (λ w. 32 ∷ w) (letters_of m (drop i ws))
letters_done m ws i out l = sym (append-nil out) ∙ ap (λ v. out ++ flat_map (λ w. 32 ∷ w) (letters_of m v)) (sym (none_behind ws i l))

pub same_compared : (m n : Machine) (s : Status) (text : List ℕ) → Compares m n None → s ≡ status.Ok → text ≡ codes "same\n" → IsComparedIn m n s text
same_compared m n s text c e f = record { word = None; compares = c; status_is = e; text_is = f }

pub differ_compared : (m n : Machine) (w : List ℕ) (s : Status) (text : List ℕ) → Compares m n (Some w) → s ≡ status.Differ (length w)
    → text ≡ differ_text (letters_of m w) → IsComparedIn m n s text
differ_compared m n w s text c e f = record { word = Some w; compares = c; status_is = e; text_is = f }

pub ruleset comparing = (same_compared, differ_compared)
