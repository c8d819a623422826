-- Bytes read as one automaton, or have one first cause.
use Rattle.std.specs.Prelude.{◌≡◌, ℕ, List, Option, Some, None, Result, Ok, Err, refl}
use Rattle.std.proofs.Common.{sym, ◌∙◌, ap}
use Rattle.std.proofs.lemmas.Option.{same_Some}
use Rattle.circ_lexer.specs.declared.tokens.Span.{Span}
use Rattle.circ_lexer.specs.declared.fault.LexFault.{LexFault}
use Rattle.circ_lexer.specs.declared.fault.LexFault.TheVariants as lex
use Rattle.circ_lexer.specs.Cuts.{Cuts}
use Rattle.circ_lexer.specs.TokenList.{TokenList, AreTokens, GivesTokens, tokens_of}
use Rattle.circ_statement.specs.Words.{Word}
use Rattle.circ_auto.specs.declared.fault.AutoCause.{AutoCause}
use Rattle.circ_auto.specs.declared.fault.AutoFault.{AutoFault}
use Rattle.circ_auto.specs.declared.fault.AutoFault.TheVariants as fault
use Rattle.circ_auto.specs.Machine.{Machine}
use Rattle.circ_auto.specs.Parts.{Part, automaton_of}
use Rattle.circ_auto.specs.Text.{ReadsAsAutomaton, byte_cause, FirstAutoCause, at_a_byte, in_a_statement, GivesAutomaton}
use Rattle.circ_auto.specs.Gives.{GivesPart, byte_fault}
use Rattle.circ_auto.proofs.Inverting.{ok_same}
use Rattle.circ_auto.proofs.Texts.{text_of_read, read_of_text}

-- bytes are cut in one way
pub record CutOnce : Type 0 where
  pub tokens : (bytes : List ℕ) (ws vs : List Word) → AreTokens bytes ws → AreTokens bytes vs → vs ≡ ws
  pub one : (bytes : List ℕ) (ss us : List Span) (o p : Option LexFault) → Cuts 0 bytes ss o → Cuts 0 bytes us p → (us ≡ ss) × (p ≡ o)

pub automaton_once : CutOnce → (bytes : List ℕ) (m n : Machine) → ReadsAsAutomaton bytes m → ReadsAsAutomaton bytes n → n ≡ m
automaton_once cut bytes m n a b =
    let same : b.words ≡ a.words = cut.tokens bytes a.words b.words a.are_words b.are_words in
    ok_same n m (sym (read_of_text b.words n b.text) ∙ ap automaton_of same ∙ read_of_text a.words m a.text)

bad_or_cut : CutOnce → (bytes : List ℕ) (ws : List Word) (f : LexFault) (ss : List Span) → AreTokens bytes ws → Cuts 0 bytes ss (Some f) → ⊥
bad_or_cut cut bytes ws f ss a c = let e : ◌≡◌ {A = Option LexFault} (Some f) None = (cut.one bytes a.0 ss None (Some f) a.1.0 c).1 in absurd (cc)

pub automaton_or_cause : CutOnce → (bytes : List ℕ) (m : Machine) (k : ℕ) (c : AutoCause) → ReadsAsAutomaton bytes m → FirstAutoCause bytes k c → ⊥
automaton_or_cause cut bytes m _ _ a (at_a_byte f x) = bad_or_cut cut bytes a.words f x.0 a.are_words x.1
automaton_or_cause cut bytes m _ _ a (in_a_statement ws k c t e) =
    let same : ws ≡ a.words = cut.tokens bytes a.words ws a.are_words t in
    let never : ◌≡◌ {A = Part Machine} (Err (k, c)) (Ok m) = sym e ∙ ap automaton_of same ∙ read_of_text a.words m a.text in
    absurd (cc)

same_err : (a b : ℕ × AutoCause) → ◌≡◌ {A = Part Machine} (Err a) (Err b) → a ≡ b
same_err a b e = cc

pub cause_once : CutOnce → (bytes : List ℕ) (j k : ℕ) (c d : AutoCause) → FirstAutoCause bytes j c → FirstAutoCause bytes k d → (k ≡ j) × (d ≡ c)
cause_once cut bytes _ _ _ _ (at_a_byte f x) (at_a_byte g y) =
    let e : g ≡ f = same_Some g f (cut.one bytes x.0 y.0 (Some f) (Some g) x.1 y.1).1 in (refl, ap byte_cause e)
cause_once cut bytes _ _ _ _ (at_a_byte f x) (in_a_statement ws k d t e) = absurd (bad_or_cut cut bytes ws f x.0 t x.1)
cause_once cut bytes _ _ _ _ (in_a_statement ws k d t e) (at_a_byte f x) = absurd (bad_or_cut cut bytes ws f x.0 t x.1)
cause_once cut bytes _ _ _ _ (in_a_statement ws j c t e) (in_a_statement vs k d u f) =
    let same : vs ≡ ws = cut.tokens bytes ws vs t u in
    let pair : ◌≡◌ {A = ℕ × AutoCause} (k, d) (j, c) = same_err (k, d) (j, c) (sym f ∙ ap automaton_of same ∙ e) in
    (ap (λ p. p.0) pair, ap (λ p. p.1) pair)

pub automaton_total : ((bytes : List ℕ) → (ss : List Span) × ((o : Option LexFault) × Cuts 0 bytes ss o)) → (bytes : List ℕ)
    → ((m : Machine) → ReadsAsAutomaton bytes m → ⊥) → ((k : ℕ) (c : AutoCause) → FirstAutoCause bytes k c → ⊥) → ⊥
automaton_total cuts bytes none no_cause = go (cuts bytes).0 (cuts bytes).1.0 (cuts bytes).1.1
  where
    words : (ss : List Span) → List Word
    words ss = tokens_of (record { source = bytes; spans = ss })

    read : (ss : List Span) → AreTokens bytes (words ss) → (p : Part Machine) → automaton_of (words ss) ≡ p → ⊥
    read ss t (Ok m) e = none m (record { words = words ss; are_words = t; text = text_of_read (words ss) m e })
    read ss t (Err x) e = no_cause x.0 x.1 (in_a_statement (words ss) x.0 x.1 t e)

    go : (ss : List Span) (o : Option LexFault) → Cuts 0 bytes ss o → ⊥
    go ss (Some f) c = no_cause 0 (byte_cause f) (at_a_byte f (ss, c))
    go ss None c = read ss (ss, (c, refl)) (automaton_of (words ss)) refl

-- what the reader answers
pub gives_automaton : (r : Result Machine AutoFault) (bytes : List ℕ) (ws : List Word) → AreTokens bytes ws → GivesPart (λ m. m) r (automaton_of ws)
    → GivesAutomaton r bytes
gives_automaton (Ok m) bytes ws t e = record { words = ws; are_words = t; text = text_of_read ws m e }
gives_automaton (Err (fault.Statement n c)) bytes ws t e = in_a_statement ws n c t e
gives_automaton (Err fault.Memory) bytes ws t e = tt

pub gives_fault : (f : LexFault) (bytes : List ℕ) → GivesTokens (Err f) bytes → GivesAutomaton (Err (byte_fault f)) bytes
gives_fault (lex.NotAscii p) bytes h = at_a_byte (lex.NotAscii p) h
gives_fault (lex.Control p) bytes h = at_a_byte (lex.Control p) h
gives_fault lex.Memory bytes h = tt
