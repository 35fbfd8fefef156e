use Rattle.std.proofs.Common.{arith, ◌≡◌, ◌<◌, ◌≤◌, ◌∙◌, ℕ, List, Vec, Global, None, Some, length, map, sym, ap, subst}
use Rattle.std.proofs.lemmas.Option.{slice_get_past}
use Rattle.bb_base.proofs.Lists.{get_some, length_map}
use Rattle.bb_forms.specs.declared.signature.Signature.{Signature}
use Rattle.bb_alike.proofs.ListLemmas.{item_at, image_at, agree_more, not_both}
use Rattle.bb_audit.specs.Certified.{IsFirstApart}
use Rattle.bb_audit.specs.Signed.{registers_of}
use Rattle.bb_audit.proofs.ApartLemmas.{agree_fitting}
use Rattle.bb_audit.proofs.ListedLemmas.{registers_in, values_in, apart_signed}
use Rattle.bb_audit.proofs.sessions.first_apart.Goals as goal

abbrev items_of : List (Vec Signature Global) → List (List Signature)
items_of signed = map (λ (s : Vec Signature Global). s.items) signed

items_long : (signed : List (Vec Signature Global)) → length (items_of signed) ≡ length signed
items_long signed = length_map (λ (s : Vec Signature Global). s.items) signed

registers_long : (signed : List (Vec Signature Global)) → length (registers_of (items_of signed)) ≡ length signed
registers_long signed = length_map registers_in (items_of signed) ∙ items_long signed

abbrev numbers_of : List (Vec ℕ Global) → List (List ℕ)
numbers_of values = map (λ (s : Vec ℕ Global). s.items) values

numbers_long : (values : List (Vec ℕ Global)) → length (numbers_of values) ≡ length values
numbers_long values = length_map (λ (s : Vec ℕ Global). s.items) values

pub returns-in_default-clause-first : goal.returns-in_default-clause-first
returns-in_default-clause-first c = λ place should e er ev.
    let signed = c.args.signed.now in
    let sessions = c.args.sessions.now in
    let n = c.sessions.place in
    let low : c.sessions.place < length sessions = omega arith in
    let same : c.sessions.place ≡ place = cc e in
    let past : length signed ≤ c.sessions.place = c.in_default.ensures.lookup.3 in
    let none = slice_get_past (registers_of (items_of signed)) n (omega (arith, registers_long signed, past)) in
    let some = item_at sessions n c.index-sessions-place.result low c.index-sessions-place.is in
    subst (IsFirstApart (items_of signed) should) same
    (apart_signed (items_of signed) should sessions (numbers_of c.args.values.now) n er ev c.sessions.invariant.registers c.sessions.invariant.values
    (λ a b. let both : None ≡ Some c.index-sessions-place.result = sym none ∙ a ∙ some in cc both))

pub returns-then-not-are_listed-clause-first : goal.returns-then-not-are_listed-clause-first
returns-then-not-are_listed-clause-first c = λ place should e er ev.
    let signed = c.args.signed.now in
    let sessions = c.args.sessions.now in
    let values = c.args.values.now in
    let n = c.sessions.place in
    let low : c.sessions.place < length sessions = omega arith in
    let high : c.sessions.place < length values = omega arith in
    let same : c.sessions.place ≡ place = cc e in
    let list = c.in-Some.list.now in
    let at = image_at (λ (s : Vec Signature Global). s.items) signed n list (item_at signed n list c.in-Some.ensures.lookup.3.0 c.in-Some.ensures.lookup.1) in
    let some = item_at sessions n c.index-sessions-place.result low c.index-sessions-place.is in
    let there = image_at (λ (s : Vec ℕ Global). s.items) values n c.index-values-place.result (item_at values n c.index-values-place.result high c.index-values-place.is) in
    subst (IsFirstApart (items_of signed) should) same
    (apart_signed (items_of signed) should sessions (numbers_of values) n er ev c.sessions.invariant.registers c.sessions.invariant.values
    (λ a b.
    let registers : Some (registers_in list.items) ≡ Some c.index-sessions-place.result = sym (image_at registers_in (items_of signed) n list.items at) ∙ a ∙ some in
    let numbers : Some (values_in list.items) ≡ Some c.index-values-place.result.items = sym (image_at values_in (items_of signed) n list.items at) ∙ b ∙ there in
    let one : registers_in list.items ≡ c.index-sessions-place.result = cc registers in
    let two : values_in list.items ≡ c.index-values-place.result.items = cc numbers in
    not_both c.are_listed.result
    (c.are_listed.ensures.1 (ap registers_in c.deref.ensures.value ∙ one ∙ sym (c.deref-in-sessions.ensures.value ∙ c.session.view_is), ap values_in c.deref.ensures.value ∙ two ∙ sym c.deref-in-sessions-2.ensures.value))
    c.if-not-are_listed.true))

pub sessions-preserved : goal.sessions-preserved
sessions-preserved c =
    let signed = c.args.signed.now in
    let sessions = c.args.sessions.now in
    let values = c.args.values.now in
    let n = c.sessions.place in
    let low : c.sessions.place < length sessions = omega arith in
    let high : c.sessions.place < length values = omega arith in
    let list = c.in-Some.list.now in
    let at = image_at (λ (s : Vec Signature Global). s.items) signed n list (item_at signed n list c.in-Some.ensures.lookup.3.0 c.in-Some.ensures.lookup.1) in
    let some = item_at sessions n c.index-sessions-place.result low c.index-sessions-place.is in
    let there = image_at (λ (s : Vec ℕ Global). s.items) values n c.index-values-place.result (item_at values n c.index-values-place.result high c.index-values-place.is) in
    let both = c.are_listed.ensures.0 c.if-not-are_listed.false in
    record {
      registers = agree_more registers_in (items_of signed) sessions n list.items c.index-sessions-place.result c.sessions.invariant.registers at some (sym (ap registers_in c.deref.ensures.value) ∙ both.0 ∙ c.deref-in-sessions.ensures.value ∙ c.session.view_is);
      values = agree_more values_in (items_of signed) (numbers_of values) n list.items c.index-values-place.result.items c.sessions.invariant.values at there (sym (ap values_in c.deref.ensures.value) ∙ both.1 ∙ c.deref-in-sessions-2.ensures.value);
    }

pub returns-then-signed-sessions-clause-first : goal.returns-then-signed-sessions-clause-first
returns-then-signed-sessions-clause-first c = λ place should e er ev.
    let signed = c.args.signed.now in
    let sessions = c.args.sessions.now in
    let same : length sessions ≡ place = cc e in
    let past : length sessions ≤ c.sessions.place = omega arith in
    let more : length sessions < length signed = omega arith in
    let x = get_some (registers_of (items_of signed)) (length sessions) (omega (arith, registers_long signed, more)) in
    let none = slice_get_past sessions (length sessions) (omega arith) in
    subst (IsFirstApart (items_of signed) should) same
    (apart_signed (items_of signed) should sessions (numbers_of c.args.values.now) (length sessions) er ev (λ i less. c.sessions.invariant.registers i (omega (arith, less, past))) (λ i less. c.sessions.invariant.values i (omega (arith, less, past)))
    (λ a b. let both : Some x.0 ≡ None = sym x.1 ∙ a ∙ none in cc both))

pub returns-clause-none : goal.returns-clause-none
returns-clause-none c = λ e.
    let signed = c.args.signed.now in
    let sessions = c.args.sessions.now in
    let values = c.args.values.now in
    let past : length sessions ≤ c.sessions.place = omega arith in
    let fits : length signed ≤ length sessions = omega arith in
    let long : length values ≡ length sessions = c.requires in (
      agree_fitting registers_in (items_of signed) sessions c.sessions.place c.sessions.invariant.registers past (omega (arith, items_long signed, fits)),
      agree_fitting values_in (items_of signed) (numbers_of values) c.sessions.place c.sessions.invariant.values (omega (arith, numbers_long values, past, long)) (omega (arith, items_long signed, numbers_long values, fits, long)),
    )
