-- What the chart finds is enough of the readings.
use Rattle.std.proofs.Common.{◌≡◌, ◌≤◌, ℕ, length, List, [], ◌∷◌, map, Bool, false, sym, ◌∙◌, ap, subst, refl}
use Rattle.circ_term.specs.Tree.{Tree, sort_of}
use Rattle.circ_spelling.specs.declared.grammar.Grammar.{Grammar}
use Rattle.circ_chart.specs.declared.TheConstants.{EVERY}
use Rattle.circ_chart.specs.Few.{Enough}
use Rattle.circ_chart.proofs.Sets.{Joined, Some_of, enough_all, enough_chain, enough_joined, enough_some}
use Rattle.circ_spelling.specs.Generates as generating
use Rattle.circ_chart.specs.Tops.{Among, OfSort}
use Rattle.circ_theory.specs.Signature.{Signature}
use Rattle.circ_theory.specs.Theory.{Declared}
use Rattle.circ_mixfix.specs.declared.few.Few.{Few}
use Rattle.circ_mixfix.specs.Named.{Named}
use Rattle.circ_mixfix.specs.Symbols.{every}
use Rattle.circ_mixfix.specs.Spells.{Spells}
use Rattle.circ_mixfix.specs.Readings.{reading_of, ReadsOne, SpellTwos}
use Rattle.circ_mixfix.specs.Answers.{ReadsOnly}
use Rattle.circ_mixfix.specs.Choices.{KeepsSpelled}
use Rattle.circ_mixfix.specs.Coding.{texts_at, named_by, AllBelow, IsGrammarOf}
use Rattle.circ_mixfix.specs.WordLists.{BeginAlike}
use Rattle.circ_mixfix.specs.Found.{In, KeepsReadings, Image, OneRead, BothRead}
use Rattle.circ_mixfix.specs.Numbering.{numbered_anew}
use Rattle.circ_mixfix.proofs.Coded.{AreKnown, chart_known, spelled_apart}
use Rattle.circ_mixfix.proofs.Images.{enough_image}
use Rattle.circ_mixfix.proofs.NumberNames.{one_named}
use Rattle.circ_mixfix.proofs.ReadingSets.{each_sort_named, reads_one}

module _ (sig : Signature) (vars : List Declared) (hole : Bool) (ws : List (List ℕ)) (k most : ℕ) (g : Grammar) (h : IsGrammarOf sig vars hole ws k most g) (begin : BeginAlike ws) where
  abbrev Each : List ℕ → List Tree → Type 0
  Each ns us = (s : ℕ) → Enough (OfSort us s) (generating.Generates g EVERY s ns)

  abbrev NamedOf : List Tree → ℕ → Named → Type 0
  NamedOf us s = Image (named_by ws) (OfSort us s)

  known : (ns : List ℕ) (us : List Tree) → Each ns us → (t : Tree) → Among us t → AreKnown ws t
  known ns us each t m = chart_known sig vars hole ws k most g h EVERY (sort_of t) ns t ((each (sort_of t)).sound t (m, refl))

  pub one_kept : (ns : List ℕ) (tokens : List (List ℕ)) (us : List Tree) (found : Few) → AllBelow k ns → length ns ≤ most → texts_at ws ns ≡ tokens → Each ns us → KeepsReadings found (OneRead hole us)
      → KeepsReadings found (ReadsOnly sig vars hole tokens)
  one_kept ns tokens us found below few e each kept =
      let P : List (List ℕ) → Type 0 = λ x. KeepsReadings found (ReadsOnly sig vars hole x) in
      subst P e (record {
        enough = enough_chain (In found) (OneRead hole us) (ReadsOnly sig vars hole (texts_at ws ns)) kept.enough
            (enough_chain (OneRead hole us) (Image list_of_one (Image (reading_of hole) (Some_of (NamedOf us)))) (ReadsOnly sig vars hole (texts_at ws ns))
            (enough_all (OneRead hole us) (Image list_of_one (Image (reading_of hole) (Some_of (NamedOf us)))) there back)
            (enough_chain (Image list_of_one (Image (reading_of hole) (Some_of (NamedOf us)))) (Image list_of_one (ReadsOne sig vars hole (texts_at ws ns))) (ReadsOnly sig vars hole (texts_at ws ns))
            (enough_image list_of_one (Image (reading_of hole) (Some_of (NamedOf us))) (ReadsOne sig vars hole (texts_at ws ns)) (λ x y a b q. cc q)
            (reads_one sig vars hole (texts_at ws ns) (NamedOf us) (each_sort_named sig vars hole ws k most g ns us h below few each)))
            (enough_all (Image list_of_one (ReadsOne sig vars hole (texts_at ws ns))) (ReadsOnly sig vars hole (texts_at ws ns)) (λ ts i. (i.from, i.is, i.has))
            (λ ts r. record { from = r.0; has = r.2; is = r.1 }))));
        ordered = kept.ordered;
      })
    where
      list_of_one : Tree → List Tree
      list_of_one t = t ∷ []

      there : (ts : List Tree) → OneRead hole us ts → Image list_of_one (Image (reading_of hole) (Some_of (NamedOf us))) ts
      there ts i = record {
        from = numbered_anew hole i.from;
        is = i.is;
        has = record {
          from = named_by ws i.from;
          has = record { index = sort_of i.from; has = record { from = i.from; has = (i.has, refl); is = refl } };
          is = one_named ws h.different begin hole i.from (known ns us each i.from i.has);
        };
      }

      back : (ts : List Tree) → Image list_of_one (Image (reading_of hole) (Some_of (NamedOf us))) ts → OneRead hole us ts
      back ts i =
          let q = i.has.has.has in
          record {
            from = q.from;
            has = q.has.0;
            is = i.is ∙ ap list_of_one (i.has.is ∙ ap (reading_of hole) q.is ∙ sym (one_named ws h.different begin hole q.from (known ns us each q.from q.has.0)));
          }

module _ (sig : Signature) (vars : List Declared) (ws : List (List ℕ)) (k most : ℕ) (g : Grammar) (h : IsGrammarOf sig vars false ws k most g) where
  abbrev All : List ℕ → List Tree → Type 0
  All ns us = (s : ℕ) → Enough (OfSort us s) (generating.Generates g EVERY s ns)

  abbrev Names : List Tree → ℕ → Named → Type 0
  Names us s = Image (named_by ws) (OfSort us s)

  abbrev two : Named → Named → List Named
  two q r = q ∷ r ∷ []

  -- different terms of the chart have different names
  same_term : (ns : List ℕ) (us : List Tree) → All ns us → (t u : Tree) → Among us t → Among us u → named_by ws t ≡ named_by ws u → t ≡ u
  same_term ns us each t u a b e =
      spelled_apart sig vars false ws k most g h EVERY (sort_of t) EVERY (sort_of u) ns t u ((each (sort_of t)).sound t (a, refl)) ((each (sort_of u)).sound u (b, refl)) e

  pub both_kept : (ms ns : List ℕ) (left right : List (List ℕ)) (us vs : List Tree) (found : Few) → AllBelow k ms → AllBelow k ns → length ms ≤ most → length ns ≤ most → texts_at ws ms ≡ left → texts_at ws ns ≡ right → All ms us → All ns vs
      → KeepsReadings found (BothRead us vs) → KeepsSpelled sig vars left right ws found
  both_kept ms ns left right us vs found bm bn fm fn el er am an kept =
      let P : List (List ℕ) → Type 0 = λ x. KeepsSpelled sig vars x right ws found in
      let Q : List (List ℕ) → Type 0 = λ x. KeepsSpelled sig vars (texts_at ws ms) x ws found in
      subst P el (subst Q er (record {
        enough = enough_chain (Image names (In found)) (Image names (BothRead us vs)) Wanted (enough_image names (In found) (BothRead us vs) same kept.enough)
            (enough_chain (Image names (BothRead us vs)) Pairs Wanted (enough_all (Image names (BothRead us vs)) Pairs there back)
            (enough_chain Pairs Spelled Wanted
            (enough_some (λ s. Joined two (Names us s) (Names vs s)) (λ s. Joined two (SpellLeft s) (SpellRight s))
            (λ s. enough_joined two (Names us s) (SpellLeft s) (Names vs s) (SpellRight s) (λ a b c d e. cc e) (λ a b c d e. cc e)
            (each_sort_named sig vars false ws k most g ms us h bm fm am s) (each_sort_named sig vars false ws k most g ns vs h bn fn an s)))
            (enough_all Spelled Wanted out into)));
        apart = λ ts xs a b e. same ts xs (kept.enough.sound ts a) (kept.enough.sound xs b) e;
        ordered = kept.ordered;
      }))
    where
      names : List Tree → List Named
      names = map (named_by ws)

      SpellLeft : ℕ → Named → Type 0
      SpellLeft s = Spells sig vars false every s (texts_at ws ms)

      SpellRight : ℕ → Named → Type 0
      SpellRight s = Spells sig vars false every s (texts_at ws ns)

      Wanted : List Named → Type 0
      Wanted = SpellTwos sig vars (texts_at ws ms ∷ texts_at ws ns ∷ [])

      Pairs : List Named → Type 0
      Pairs = Some_of (λ s. Joined two (Names us s) (Names vs s))

      Spelled : List Named → Type 0
      Spelled = Some_of (λ s. Joined two (SpellLeft s) (SpellRight s))

      same : (ts xs : List Tree) → BothRead us vs ts → BothRead us vs xs → names ts ≡ names xs → ts ≡ xs
      same ts xs a b e =
          let p = a.with_right in
          let q = b.with_right in
          let f : two (named_by ws a.left) (named_by ws p.right) ≡ two (named_by ws b.left) (named_by ws q.right) = ap names (sym p.is) ∙ e ∙ ap names q.is in
          let l : a.left ≡ b.left = same_term ms us am a.left b.left a.listed b.listed (cc f) in
          let r : p.right ≡ q.right = same_term ns vs an p.right q.right p.listed q.listed (cc f) in
          p.is ∙ ap (λ x. x ∷ p.right ∷ []) l ∙ ap (λ x. b.left ∷ x ∷ []) r ∙ sym q.is

      there : (qs : List Named) → Image names (BothRead us vs) qs → Pairs qs
      there qs i =
          let b = i.has in
          let r = b.with_right in
          record {
            index = sort_of b.left;
            has = record {
              left = named_by ws b.left;
              right = named_by ws r.right;
              in_left = record { from = b.left; has = (b.listed, refl); is = refl };
              in_right = record { from = r.right; has = (r.listed, r.same_sort); is = refl };
              is = i.is ∙ ap names r.is;
            };
          }

      back : (qs : List Named) → Pairs qs → Image names (BothRead us vs) qs
      back qs i =
          let j = i.has in
          let a = j.in_left in
          let b = j.in_right in
          record {
            from = a.from ∷ b.from ∷ [];
            has = record { left = a.from; listed = a.has.0; with_right = record { right = b.from; listed = b.has.0; same_sort = b.has.1 ∙ sym a.has.1; is = refl } };
            is = j.is ∙ ap (λ x. two x j.right) a.is ∙ ap (two (named_by ws a.from)) b.is;
          }

      out : (qs : List Named) → Spelled qs → Wanted qs
      out qs i =
          let j = i.has in
          subst Wanted (sym j.is) (record { sort = i.index; spells_left = j.in_left; spells_right = j.in_right }, tt)

      into : (qs : List Named) → Wanted qs → Spelled qs
      into [] w = absurd w
      into (q ∷ []) w = absurd w
      into (q ∷ r ∷ []) w = record { index = w.0.sort; has = record { left = q; right = r; in_left = w.0.spells_left; in_right = w.0.spells_right; is = refl } }
      into (q ∷ r ∷ p ∷ qs) w = absurd w.1
