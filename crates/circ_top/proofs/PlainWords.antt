-- What `clap` makes of words that are taken as they stand.
use Rattle.std.proofs.Common.{◌≡◌, ℕ, Bool, List, [], ◌∷◌, length, true, false, codes, refl, sym, ◌∙◌, ap, arith, Option, Some, None}
use Rattle.std.specs.Option.{option_map_or}
use Rattle.std.proofs.lemmas.Bool.{ne_eqb}
use Rattle.std.specs.Str.{bytes_eq}
use Rattle.clap.specs.Faults.{walk_fault, defaults_fault}
use Rattle.clap.specs.Lexer.{long_of, short_of}
use Rattle.clap.specs.Walk.{walked}
use Rattle.circ_top.specs.Command.{Command, IsCommand, Asks, IsNoCommand}
use Rattle.circ_top.specs.PlainWords.{IsPlainWord, usual_limits}
use Rattle.circ_top.specs.Words.{IsFlag}

pub no_words : IsNoCommand []
unfolding walk_fault walked defaults_fault
no_words c a = let never = a.taken in cc

-- a flag of which the value is `false` is not set
unset : {value : Option (List ℕ)} → value ≡ Some (codes "false") → IsFlag value false
unset e = (
  λ t. absurd (let never : false ≡ true = t in cc),
  λ h. absurd (let never : 5 ≡ 4 = ap (λ o. option_map_or length o 0) (sym e ∙ h) in omega (arith, never)),
)

-- no flag, and not `--`
record IsNoFlag (word : List ℕ) : Type 0 where
  pub not_minuses : bytes_eq word (45 ∷ 45 ∷ []) ≡ false
  pub not_long : long_of word ≡ None
  pub not_short : short_of word ≡ None

no_flag : (word : List ℕ) → IsPlainWord word → IsNoFlag word
no_flag [] h = record { not_minuses = refl; not_long = refl; not_short = refl }
no_flag (x ∷ xs) h =
    let e = ne_eqb x 45 (λ s. h xs (ap (λ y. y ∷ xs) s)) in record { not_minuses = rw e refl; not_long = rw e refl; not_short = rw e refl }

module _ (program name : List ℕ) where
  pub one_plain : (word : List ℕ) → IsPlainWord name → IsPlainWord word → (c : Command) → IsCommand usual_limits name (word ∷ []) c
      → Asks (program ∷ name ∷ word ∷ []) c
  unfolding walk_fault walked defaults_fault
  one_plain word g h c i =
      let n = no_flag name g in
      let a = no_flag word h in
      record {
        limits = usual_limits;
        name = name;
        given = word ∷ [];
        taken = rw (n.not_minuses, n.not_long, n.not_short, a.not_minuses, a.not_long, a.not_short) (refl {a = []});
        finds = record {
          steps = rw (n.not_minuses, n.not_long, n.not_short, a.not_minuses, a.not_long, a.not_short) refl;
          derives = rw (n.not_minuses, n.not_long, n.not_short, a.not_minuses, a.not_long, a.not_short) refl;
          split = rw (n.not_minuses, n.not_long, n.not_short, a.not_minuses, a.not_long, a.not_short) (unset refl);
          rewrite = rw (n.not_minuses, n.not_long, n.not_short, a.not_minuses, a.not_long, a.not_short) (unset refl);
          name_is = rw (n.not_minuses, n.not_long, n.not_short, a.not_minuses, a.not_long, a.not_short) (refl {a = Some name});
          given_are = rw (n.not_minuses, n.not_long, n.not_short, a.not_minuses, a.not_long, a.not_short) (refl {a = Some (word ∷ [])});
        };
        is = i;
      }

  pub two_plain : (first second : List ℕ) → IsPlainWord name → IsPlainWord first → IsPlainWord second → (c : Command)
      → IsCommand usual_limits name (first ∷ second ∷ []) c → Asks (program ∷ name ∷ first ∷ second ∷ []) c
  unfolding walk_fault walked defaults_fault
  two_plain first second g h k c i =
      let n = no_flag name g in
      let a = no_flag first h in
      let b = no_flag second k in
      record {
        limits = usual_limits;
        name = name;
        given = first ∷ second ∷ [];
        taken = rw (n.not_minuses, n.not_long, n.not_short, a.not_minuses, a.not_long, a.not_short, b.not_minuses, b.not_long, b.not_short) (refl {a = []});
        finds = record {
          steps = rw (n.not_minuses, n.not_long, n.not_short, a.not_minuses, a.not_long, a.not_short, b.not_minuses, b.not_long, b.not_short) refl;
          derives = rw (n.not_minuses, n.not_long, n.not_short, a.not_minuses, a.not_long, a.not_short, b.not_minuses, b.not_long, b.not_short) refl;
          split = rw (n.not_minuses, n.not_long, n.not_short, a.not_minuses, a.not_long, a.not_short, b.not_minuses, b.not_long, b.not_short) (unset refl);
          rewrite = rw (n.not_minuses, n.not_long, n.not_short, a.not_minuses, a.not_long, a.not_short, b.not_minuses, b.not_long, b.not_short) (unset refl);
          name_is = rw (n.not_minuses, n.not_long, n.not_short, a.not_minuses, a.not_long, a.not_short, b.not_minuses, b.not_long, b.not_short) (refl {a = Some name});
          given_are = rw (n.not_minuses, n.not_long, n.not_short, a.not_minuses, a.not_long, a.not_short, b.not_minuses, b.not_long, b.not_short) (refl {a = Some (first ∷ second ∷ [])});
        };
        is = i;
      }

  pub behind_minuses : (first second : List ℕ) (c : Command) → IsCommand usual_limits name (first ∷ second ∷ []) c
      → Asks (program ∷ codes "--" ∷ name ∷ first ∷ second ∷ []) c
  unfolding walk_fault walked defaults_fault
  behind_minuses first second c i = record {
    limits = usual_limits;
    name = name;
    given = first ∷ second ∷ [];
    taken = refl;
    finds = record { steps = refl; derives = refl; split = unset refl; rewrite = unset refl; name_is = refl; given_are = refl };
    is = i;
  }
