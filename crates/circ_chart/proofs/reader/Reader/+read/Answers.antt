use Rattle.std.proofs.Common.{◌≡◌, ◌+◌, Some, drop, length, sym, subst, ◌∙◌, arith, refl}
use Rattle.std.proofs.lemmas.List.{length-drop}
use Rattle.std.proofs.lemmas.Option.{slice_get_read}
use Rattle.circ_spelling.specs.declared.grammar.Rule.{Rule}
use Rattle.circ_chart.specs.declared.memo.Question.TheVariants.{OfTerm, OfRow}
use Rattle.circ_chart.specs.Few.{Or}
use Rattle.circ_chart.specs.Members.{In, KeepsTerms}
use Rattle.circ_chart.specs.Rows.{RowsOf}
use Rattle.circ_chart.specs.Reader.{TermsOver, RulesOver, RuleOver, SplitOver, symbols_of, behind}
use Rattle.circ_chart.proofs.Small.{small_rows}
use Rattle.circ_spelling.proofs.May.{may_reads}
use Rattle.circ_chart.proofs.Memory.{listed_answer}
use Rattle.circ_chart.proofs.Tables.{next_skips}
use Rattle.circ_chart.proofs.Asking.{keeps_none, small_terms, found_ways, with_enough, rule_terms, no_last, going_first, going_on, going_full, going_end, short_parentheses, no_tokens, kept_word, rule_step, rules_full, rules_end, no_first, no_rest, no_others, split_kept, rule_passed, before_kept, before_none}
use Rattle.circ_chart.proofs.reader.Reader.+read.Goals as goal

-- terms
pub terms-returns-then-not-may_spell-clause-terms : goal.terms-returns-then-not-may_spell-clause-terms
terms-returns-then-not-may_spell-clause-terms t c =
    let a = c.args in
    let r = a.self.now in
    keeps_none (TermsOver r a.wanted a.from a.to)
    (λ x h. c.may_spell.ensures c.if-not-may_spell.true (may_reads r.grammar.now r.tokens.now r.starts.now a.wanted.below a.wanted.sort a.from a.to x h c.requires.ready.starts c.requires.ready.words))

pub terms-returns-in-Some-clause-terms : goal.terms-returns-in-Some-clause-terms
terms-returns-in-Some-clause-terms t c =
    let a = c.args in
    let r = a.self.now in
    listed_answer r.grammar.now r.tokens.now a.memo.now.entries.items (OfTerm a.wanted.sort a.wanted.below) a.from a.to c.in-Some.few c.requires.ready.memo (rw (c.in-Some.is) at c.in_ok-known.ensures)

pub terms-returns-clause-terms : goal.terms-returns-clause-terms
terms-returns-clause-terms t c = rw (c.in_ok-kept.ensures.same) (c.in_ok-few.ensures.terms)

pub terms-returns-clause-ready : goal.terms-returns-clause-ready
terms-returns-clause-ready t c =
    let r = c.args.self.now in
    let q = c.in_ok-few.ensures in
    record {
      words = q.ready.words;
      tables = q.ready.tables;
      starts = q.ready.starts;
      levels = q.ready.levels;
      memo = c.in_ok-kept.ensures.kept r.grammar.now r.tokens.now q.ready.memo q.terms;
    }

pub terms-new_terms-requires : goal.terms-new_terms-requires
terms-new_terms-requires t c = let q = c.requires in (omega arith, (q.ready, (q.few, (q.inside, q.before))))

pub new_terms-returns-clause-terms : goal.new_terms-returns-clause-terms
new_terms-returns-clause-terms t c =
    let a = c.args in
    let r = a.self.now in
    found_ways r.grammar.now r.tokens.now a.wanted.below a.wanted.sort a.from a.to c.variables_over-out.result c.in_ok-out.out c.in_ok-by_rules.field-0
    (rw (c.deref.ensures.value) at c.variables_over-out.ensures.enough) c.in_ok-out.ensures.terms.enough c.in_ok-by_rules.ensures.terms

pub in_parentheses-returns-then-to-from-lt3-clause-terms : goal.in_parentheses-returns-then-to-from-lt3-clause-terms
in_parentheses-returns-then-to-from-lt3-clause-terms t c =
    let a = c.args in
    let r = a.self.now in
    short_parentheses r.grammar.now r.tokens.now a.wanted.below a.wanted.sort a.from a.to a.out c.requires.ready.words c.if-to-from-lt3.true c.requires.apart

-- the loop over the rules
pub by_rules-loop-number-preserved-then-not-fits : goal.by_rules-loop-number-preserved-then-not-fits
by_rules-loop-number-preserved-then-not-fits t c =
    let a = c.args in
    let r = a.self.now in
    let rs = r.grammar.now.rules.items in
    let i = c.loop-number.invariant in
    record {
      enough = rule_passed r.grammar.now r.tokens.now a.wanted.below a.wanted.sort a.from a.to (Or (In a.out) (RulesOver r a.wanted a.from a.to)) rs c.loop-number.number c.index-rules-number.result c.loop-number.all
          (rw (c.as_slice-rules.ensures.value) at c.loop-number-test.true) (rw (c.as_slice-rules.ensures.value) at c.index-rules-number.is) i.apart i.enough
          (λ x h. let e = c.fits.ensures.1 (h.sort, h.prec) in absurd (let z = sym e ∙ c.if-not-fits.true in cc));
      apart = i.apart;
      ready = i.ready;
    }

pub by_rules-loop-number-preserved-then-not-can_span : goal.by_rules-loop-number-preserved-then-not-can_span
by_rules-loop-number-preserved-then-not-can_span t c =
    let a = c.args in
    let r = a.self.now in
    let rs = r.grammar.now.rules.items in
    let i = c.loop-number.invariant in
    let l = rw (c.as_slice-rules.ensures.value) at c.loop-number-test.true in
    let e = rw (c.as_slice-rules.ensures.value) at c.index-rules-number.is in
    record {
      enough = rule_passed r.grammar.now r.tokens.now a.wanted.below a.wanted.sort a.from a.to (Or (In a.out) (RulesOver r a.wanted a.from a.to)) rs c.loop-number.number c.index-rules-number.result c.loop-number.all
          l e i.apart i.enough
          (λ x h. c.can_span.ensures c.if-not-can_span.true r.grammar.now h.rows.args c.requires.ready.words (slice_get_read rs (length rs) c.loop-number.number c.index-rules-number.result refl l e) c.requires.ready.tables h.rows.row);
      apart = i.apart;
      ready = i.ready;
    }

pub by_rules-row-requires : goal.by_rules-row-requires
by_rules-row-requires t c =
    let rs = c.args.self.now.grammar.now.rules.items in
    let l = rw (c.as_slice-rules.ensures.value) at c.loop-number-test.true in
    let e = rw (c.as_slice-rules.ensures.value) at c.index-rules-number.is in
    let q = c.requires in
    let at = slice_get_read rs (length rs) c.loop-number.number c.index-rules-number.result refl l e in
    let b = q.before in
    let w = q.ready.words c.loop-number.number c.index-rules-number.result at in
    (omega arith, (c.loop-number.invariant.ready, (q.few, (q.inside, (omega arith, (at, (omega arith, omega arith)))))))

pub by_rules-returns-then-is_full-clause-terms : goal.by_rules-returns-then-is_full-clause-terms
by_rules-returns-then-is_full-clause-terms t c =
    let a = c.args in
    let r = a.self.now in
    let rs = r.grammar.now.rules.items in
    let q = c.index-rules-number.result in
    let f = c.fits.ensures.0 c.if-not-fits.false in
    let all = Or (In a.out) (RulesOver r a.wanted a.from a.to) in
    let more = with_enough c.loop-number.all c.both-all.result (In c.in_ok-rows.rows) (RuleOver r a.wanted a.from a.to q) c.both-all.ensures
    (rule_terms r.grammar.now r.tokens.now a.wanted.below a.wanted.sort a.from a.to q c.in_ok-rows.rows f.1 f.0 c.in_ok-rows.ensures.rows.enough) in
    rules_full r.grammar.now r.tokens.now a.wanted.below a.wanted.sort a.from a.to all rs c.loop-number.number c.both-all.result (c.is_full.ensures c.if-is_full.true) more.apart
    (rule_step r.grammar.now r.tokens.now a.wanted.below a.wanted.sort a.from a.to all rs c.loop-number.number q c.loop-number.all c.both-all.result
    (rw (c.as_slice-rules.ensures.value) at c.loop-number-test.true) (rw (c.as_slice-rules.ensures.value) at c.index-rules-number.is) c.loop-number.invariant.enough more)

pub by_rules-loop-number-preserved : goal.by_rules-loop-number-preserved
by_rules-loop-number-preserved t c =
    let a = c.args in
    let r = a.self.now in
    let rs = r.grammar.now.rules.items in
    let q = c.index-rules-number.result in
    let f = c.fits.ensures.0 c.if-not-fits.false in
    let all = Or (In a.out) (RulesOver r a.wanted a.from a.to) in
    let more = with_enough c.loop-number.all c.both-all.result (In c.in_ok-rows.rows) (RuleOver r a.wanted a.from a.to q) c.both-all.ensures
    (rule_terms r.grammar.now r.tokens.now a.wanted.below a.wanted.sort a.from a.to q c.in_ok-rows.rows f.1 f.0 c.in_ok-rows.ensures.rows.enough) in
    record {
      enough = rule_step r.grammar.now r.tokens.now a.wanted.below a.wanted.sort a.from a.to all rs c.loop-number.number q c.loop-number.all c.both-all.result
          (rw (c.as_slice-rules.ensures.value) at c.loop-number-test.true) (rw (c.as_slice-rules.ensures.value) at c.index-rules-number.is) c.loop-number.invariant.enough more;
      apart = more.apart;
      ready = c.in_ok-rows.ensures.ready;
    }

pub by_rules-returns-clause-terms : goal.by_rules-returns-clause-terms
by_rules-returns-clause-terms t c =
    let a = c.args in
    let r = a.self.now in
    let rs = r.grammar.now.rules.items in
    rules_end r.grammar.now r.tokens.now a.wanted.below a.wanted.sort a.from a.to (Or (In a.out) (RulesOver r a.wanted a.from a.to)) rs c.loop-number.number c.loop-number.all
    (rw (c.as_slice-rules.ensures.value) at c.loop-number-test.false) c.loop-number.invariant.apart c.loop-number.invariant.enough

-- rows
pub after_word-returns-then-from-to-clause-rows : goal.after_word-returns-then-from-to-clause-rows
after_word-returns-then-from-to-clause-rows t c =
    let a = c.args in
    let r = a.self.now in
    let q = a.part.rule.now in
    no_tokens r.grammar.now r.tokens.now q.op q.sort a.from a.to (symbols_of a.part) a.word (behind a.part) c.requires.word c.requires.ready.words c.if-from-to.true

pub after_word-returns-clause-rows : goal.after_word-returns-clause-rows
after_word-returns-clause-rows t c =
    let a = c.args in
    let r = a.self.now in
    let q = a.part.rule.now in
    kept_word r.grammar.now r.tokens.now q.op q.sort a.from a.to (symbols_of a.part) a.word (behind a.part) c.in_ok-row.field-0
    c.requires.word (omega arith) c.if-self-from.false c.in_ok-row.ensures.rows

pub last_hole-returns-then-from-to-clause-rows : goal.last_hole-returns-then-from-to-clause-rows
last_hole-returns-then-from-to-clause-rows t c =
    let a = c.args in
    let r = a.self.now in
    no_last r.grammar.now r.tokens.now a.rule.now.op a.rule.now.sort a.wanted.sort a.wanted.below a.from a.to c.requires.ready.words c.if-from-to.true

pub last_hole-terms-requires : goal.last_hole-terms-requires
last_hole-terms-requires t c =
    let q = c.requires in
    let a = q.ahead in
    let o = q.room in
    (omega arith, (q.ready, (q.few, (q.inside, omega arith))))

pub last_hole-last_rows-requires : goal.last_hole-last_rows-requires
last_hole-last_rows-requires t c =
    let a = c.args in
    let r = a.self.now in
    small_terms r.grammar.now r.tokens.now a.wanted.below a.wanted.sort a.from a.to c.in_ok-found.found c.requires.ready.words c.requires.few c.in_ok-found.ensures.terms.enough.sound

pub last_hole-returns : goal.last_hole-returns
last_hole-returns t c =
    let a = c.args in
    let r = a.self.now in
    record {
      rows = c.in_ok-last_rows.ensures r.grammar.now r.tokens.now a.wanted.sort a.wanted.below a.from c.in_ok-found.ensures.terms.enough;
      ready = c.in_ok-found.ensures.ready;
    }

-- rows that begin with a hole
pub kept_splits-returns-in-Some-clause-rows : goal.kept_splits-returns-in-Some-clause-rows
kept_splits-returns-in-Some-clause-rows t c =
    let a = c.args in
    let r = a.self.now in
    let p = a.gap.part in
    listed_answer r.grammar.now r.tokens.now a.memo.now.entries.items (OfRow p.number p.place) a.from a.to c.in-Some.few c.requires.ready.memo (rw (c.in-Some.is) at c.in_ok-known.ensures) p.rule.now c.requires.rule

pub kept_splits-returns-clause-rows : goal.kept_splits-returns-clause-rows
kept_splits-returns-clause-rows t c = rw (c.in_ok-kept.ensures.same) (c.in_ok-few.ensures.rows)

pub kept_splits-returns-clause-ready : goal.kept_splits-returns-clause-ready
kept_splits-returns-clause-ready t c =
    let a = c.args in
    let r = a.self.now in
    let p = a.gap.part in
    let q = c.in_ok-few.ensures in
    record {
      words = q.ready.words;
      tables = q.ready.tables;
      starts = q.ready.starts;
      levels = q.ready.levels;
      memo = c.in_ok-kept.ensures.kept r.grammar.now r.tokens.now q.ready.memo (λ x e.
          let z : Some p.rule.now ≡ Some x = sym c.requires.rule ∙ e in
          let f : p.rule.now ≡ x = cc z in
          let P : Rule → Type 0 = λ y. KeepsTerms c.in_ok-few.few (RowsOf r.grammar.now r.tokens.now y.op y.sort (drop p.place y.symbols.items) a.from a.to) in
          subst P f q.rows);
    }

pub kept_splits-new_splits-requires : goal.kept_splits-new_splits-requires
kept_splits-new_splits-requires t c = let q = c.requires in (omega arith, (q.ready, (q.few, (q.inside, (q.ahead, (q.rule, (q.hole, (q.place, (q.room, q.within)))))))))

pub splits-new_splits-requires : goal.splits-new_splits-requires
splits-new_splits-requires t c = let q = c.requires in (omega arith, (q.ready, (q.few, (q.inside, (q.ahead, (q.rule, (q.hole, (q.place, (q.room, q.within)))))))))

pub splits-kept_splits-requires : goal.splits-kept_splits-requires
splits-kept_splits-requires t c = let q = c.requires in (omega arith, (q.ready, (q.few, (q.inside, (q.ahead, (q.rule, (q.hole, (q.place, (q.room, q.within)))))))))

pub new_splits-split-requires : goal.new_splits-split-requires
new_splits-split-requires t c =
    let q = c.requires in
    let i = c.loop-middle.invariant in
    (omega arith, (i.ready, (q.few, (q.inside, (i.low, (c.loop-middle-test.true, (q.rule, (q.place, (q.room, q.within)))))))))

pub before_words-returns-then-to-from-clause-rows : goal.before_words-returns-then-to-from-clause-rows
before_words-returns-then-to-from-clause-rows t c =
    let a = c.args in
    let r = a.self.now in
    let x = a.gap in
    let q = x.part.rule.now in
    before_none r.grammar.now r.tokens.now q.op q.sort x.wanted.sort x.wanted.below (symbols_of x.part) (behind x.part) a.from a.to a.count c.requires.hole c.requires.words c.requires.count
    c.requires.ready.words c.if-to-from.true

pub before_words-returns-clause-rows : goal.before_words-returns-clause-rows
before_words-returns-clause-rows t c =
    let a = c.args in
    let r = a.self.now in
    let x = a.gap in
    let q = x.part.rule.now in
    before_kept r.grammar.now r.tokens.now q.op q.sort x.wanted.sort x.wanted.below (symbols_of x.part) (behind x.part) a.from a.to a.count c.requires.hole c.requires.words c.requires.count
    c.in_ok-split.field-0 c.in_ok-split.ensures.rows

pub new_splits-loop-middle-init : goal.new_splits-loop-middle-init
new_splits-loop-middle-init t c =
    let a = c.args in
    let r = a.self.now in
    let x = a.gap in
    let q = x.part.rule.now in
    let n = length-drop (x.part.place + 1) q.symbols.items in
    let e = c.next_at-middle.ensures in
    let p = c.requires.place in
    record {
      going = going_first r.grammar.now r.tokens.now q.op q.sort x.wanted.sort x.wanted.below (symbols_of x.part) (behind x.part) a.from a.to c.next_at-middle.result c.requires.ready.words c.requires.hole (omega arith) (omega arith)
          (next_skips r.tokens.now r.grammar.now.rules.items r.tables.now x.part.number x.part.place q c.table_at-table.result.now (a.from + 1) c.next_at-middle.result c.requires.ready.tables c.requires.rule c.table_at-table.ensures e);
      low = omega arith;
      ready = c.requires.ready;
    }

pub new_splits-returns-then-is_full-clause-rows : goal.new_splits-returns-then-is_full-clause-rows
new_splits-returns-then-is_full-clause-rows t c =
    let a = c.args in
    let r = a.self.now in
    let x = a.gap in
    let q = x.part.rule.now in
    going_full r.grammar.now r.tokens.now q.op q.sort x.wanted.sort x.wanted.below (symbols_of x.part) (behind x.part) a.from a.to c.loop-middle.out c.both-out.result c.loop-middle.middle
    c.loop-middle-test.true c.loop-middle.invariant.going
    (with_enough c.loop-middle.out c.both-out.result (In c.in_ok-found.found) (SplitOver r x a.from c.loop-middle.middle a.to) c.both-out.ensures c.in_ok-found.ensures.rows.enough)
    (c.is_full.ensures c.if-is_full.true)

pub new_splits-loop-middle-preserved : goal.new_splits-loop-middle-preserved
new_splits-loop-middle-preserved t c =
    let a = c.args in
    let r = a.self.now in
    let x = a.gap in
    let q = x.part.rule.now in
    let m = c.loop-middle.middle in
    let next = c.next_at-middle-in-loop-middle.result in
    let e = c.next_at-middle-in-loop-middle.ensures in
    let l = c.loop-middle.invariant.low in
    record {
      going = going_on r.grammar.now r.tokens.now q.op q.sort x.wanted.sort x.wanted.below (symbols_of x.part) (behind x.part) a.from a.to c.loop-middle.out c.both-out.result m next
          c.loop-middle-test.true c.loop-middle.invariant.going
          (with_enough c.loop-middle.out c.both-out.result (In c.in_ok-found.found) (SplitOver r x a.from m a.to) c.both-out.ensures c.in_ok-found.ensures.rows.enough) (omega arith)
          (next_skips r.tokens.now r.grammar.now.rules.items r.tables.now x.part.number x.part.place q c.table_at-table.result.now (m + 1) next c.requires.ready.tables c.requires.rule c.table_at-table.ensures e);
      low = omega arith;
      ready = c.in_ok-found.ensures.ready;
    }

pub new_splits-returns-clause-rows : goal.new_splits-returns-clause-rows
new_splits-returns-clause-rows t c =
    let a = c.args in
    let r = a.self.now in
    let x = a.gap in
    let q = x.part.rule.now in
    going_end r.grammar.now r.tokens.now q.op q.sort x.wanted.sort x.wanted.below (symbols_of x.part) (behind x.part) a.from a.to c.loop-middle.out c.loop-middle.middle
    c.loop-middle-test.false c.loop-middle.invariant.going

-- a split at one place
pub split-returns-then-is_rest_known_none-clause-rows : goal.split-returns-then-is_rest_known_none-clause-rows
split-returns-then-is_rest_known_none-clause-rows t c =
    let a = c.args in
    let r = a.self.now in
    let x = a.gap in
    let q = x.part.rule.now in
    no_others r.grammar.now r.tokens.now q.op q.sort x.wanted.sort x.wanted.below (behind x.part) a.from a.to a.middle (c.is_rest_known_none.ensures c.if-is_rest_known_none.true)

pub split-returns-then-is_known_none-clause-rows : goal.split-returns-then-is_known_none-clause-rows
split-returns-then-is_known_none-clause-rows t c =
    let a = c.args in
    let r = a.self.now in
    let x = a.gap in
    let q = x.part.rule.now in
    no_first r.grammar.now r.tokens.now q.op q.sort x.wanted.sort x.wanted.below (behind x.part) a.from a.to a.middle (c.is_known_none.ensures c.if-is_known_none.true)

pub split-before_rest-requires : goal.split-before_rest-requires
split-before_rest-requires t c =
    let q = c.requires in
    let l = q.low in
    let h = q.high in
    let w = q.within in
    let e = c.in_ok-rest.ensures in
    (omega arith, (e.ready, (q.few, (q.inside, (q.low, (q.high, e.rows.enough))))))

pub before_rest-returns-in-Empty-clause-rows : goal.before_rest-returns-in-Empty-clause-rows
before_rest-returns-in-Empty-clause-rows t c =
    let a = c.args in
    let r = a.self.now in
    let x = a.gap in
    let q = x.part.rule.now in
    no_rest r.grammar.now r.tokens.now q.op q.sort x.wanted.sort x.wanted.below (behind x.part) a.from a.to a.middle (rw (c.in-Empty.is) at c.requires.rest)

pub before_rest-products-requires : goal.before_rest-products-requires
before_rest-products-requires t c =
    let a = c.args in
    let r = a.self.now in
    let x = a.gap in
    let q = x.part.rule.now in
    record {
      apart = tt;
      terms = small_terms r.grammar.now r.tokens.now x.wanted.below x.wanted.sort a.from a.middle c.in_ok-found.found c.requires.ready.words c.requires.few c.in_ok-found.ensures.terms.enough.sound;
      rows = small_rows r.grammar.now r.tokens.now q.op q.sort (behind x.part) a.middle a.to a.rest.now c.requires.ready.words c.requires.few c.requires.inside c.requires.rest.sound;
    }

pub before_rest-returns : goal.before_rest-returns
before_rest-returns t c =
    let a = c.args in
    let r = a.self.now in
    let x = a.gap in
    let q = x.part.rule.now in
    record {
      rows = split_kept r.grammar.now r.tokens.now q.op q.sort x.wanted.sort x.wanted.below (behind x.part) a.from a.to a.middle c.in_ok-found.found a.rest.now c.in_ok-products.field-0
          c.in_ok-found.ensures.terms.enough c.requires.rest c.in_ok-products.ensures;
      ready = c.in_ok-found.ensures.ready;
    }
