-- A file that is given piece by piece.
use Rattle.std.specs.Prelude.{◌≡◌, ℕ, ◌+◌, ◌≤◌, List, ◌++◌, length, take, drop, true, Some}
use Rattle.std.proofs.Common.{refl, ap, sym, ◌∙◌, arith, append_assoc, append-nil, length-append}
use Rattle.std.proofs.lemmas.List.{length-take-le, take_all, drop_all}
use Rattle.circ_outer.specs.Shelf.{ShelfState, Moves, IsQuiet}

-- So many bytes were given, of which this is true. Where the shelf tells, the file has them and what is left.
abbrev pub IsGiven : (name : List ℕ) (before now : ShelfState) (count : ℕ) (T : List ℕ → Type 0) → Type 0
IsGiven name before now count T =
    (bytes : List ℕ) × (length bytes ≡ count) × T bytes × (before.tells ≡ true → before.holds name ≡ Some (bytes ++ now.left))

-- n more are given, from the front of the buffer
pub given_more : (name : List ℕ) (before now after : ShelfState) (buffer : List ℕ) (n count : ℕ) (T U : List ℕ → Type 0)
    → now.tells ≡ before.tells → n ≤ length buffer → (now.tells ≡ true → Moves now.left after.left buffer n)
    → ((bytes : List ℕ) → T bytes → U (bytes ++ take n buffer)) → IsGiven name before now count T → IsGiven name before after (count + n) U
given_more name before now after buffer n count T U same within moves more given =
    let bytes = given.0 in (
      bytes ++ take n buffer,
      (let l = length-take-le n buffer within in let s = length-append bytes (take n buffer) in omega (arith, given.1, l, s)),
      more bytes given.2,
      λ told. given.3 told ∙ ap (λ left. Some (bytes ++ left)) (moves (same ∙ told)).bytes ∙ ap (λ xs. Some xs) (sym (append_assoc bytes (take n buffer) after.left)),
    )

-- where none was moved, all are given
pub given_all : (name : List ℕ) (before now after : ShelfState) (buffer : List ℕ) (count : ℕ) (T : List ℕ → Type 0)
    → now.tells ≡ before.tells → (now.tells ≡ true → Moves now.left after.left buffer 0) → (given : IsGiven name before now count T)
    → before.tells ≡ true → before.holds name ≡ Some given.0
given_all name before now after buffer count T same moves given told =
    given.3 told ∙ ap (λ left. Some (given.0 ++ left)) ((moves (same ∙ told)).end.0 refl) ∙ ap (λ xs. Some xs) (append-nil given.0)

-- what was moved was left
pub moved_within : (left rest buffer : List ℕ) (n : ℕ) → n ≤ length buffer → Moves left rest buffer n → n ≤ length left
moved_within left rest buffer n within m =
    let l = length-take-le n buffer within in let s = length-append (take n buffer) rest in omega (arith, ap length m.bytes, l, s)

-- a buffer that was written whole
pub written_whole : (len : ℕ) (new old : List ℕ) → len ≡ length old → length new ≡ length old → take len (new ++ drop (length new) old) ≡ new
written_whole len new old e f =
    ap (λ xs. take len (new ++ xs)) (drop_all (length new) old (omega (arith, f)))
    ∙ ap (take len) (append-nil new)
    ∙ take_all len new (omega (arith, e, f))

pub quiet_more : (a b c : ShelfState) → IsQuiet a b → IsQuiet b c → IsQuiet a c
quiet_more a b c h k = record { count = k.count ∙ h.count; last = k.last ∙ h.last }
