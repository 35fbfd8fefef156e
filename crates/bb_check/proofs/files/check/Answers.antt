use Rattle.std.proofs.Common.{◌++◌, codes, ◌∙◌, subst}
use Rattle.std.proofs.lemmas.Result.{err_from_is_err_and}
use Rattle.bb_check.specs.Passed.{IsInputOf, IsNetlistOf}
use Rattle.bb_check.specs.Told.{AreFilesOf, AreFilesRefused}
use Rattle.bb_check.proofs.FileLemmas.{files_pass, stops_with, on_ok, rose_since, still_back, input_refused, netlist_refused, held_for}
use Rattle.bb_check.proofs.files.check.Goals as goal

pub returns-in_err-original-clause-complete : goal.returns-in_err-original-clause-complete
returns-in_err-original-clause-complete g c = λ texts refusal held pass e.
    let old = g.S.Store.holds c.args.store.now in
    let p = err_from_is_err_and c.from_residual.result c.from_residual.ensures.1 in
    let stops = c.in_err-original.ensures.refused refusal (stops_with c.from_residual.result c.in_err-original.field-0.0 p.0 refusal p.1 p.2 e) in
    let refused = input_refused old c.args.input.now c.args.prefix.now refusal stops texts (held_for old c.args.input.now c.args.prefix.now refusal texts held) in
    c.passed_or_refused.ensures texts refusal pass refused

pub returns-in_err-written-clause-refused : goal.returns-in_err-written-clause-refused
returns-in_err-written-clause-refused g c = λ refusal e.
    let p = err_from_is_err_and c.from_residual-in_err-written.result c.from_residual-in_err-written.ensures.1 in
    let stops = c.in_err-written.ensures.refused refusal (stops_with c.from_residual-in_err-written.result c.in_err-written.field-0.0 p.0 refusal p.1 p.2 e) in
    netlist_refused (g.S.Store.holds c.args.store.now) c.args.input.now c.args.prefix.now refusal (g.S.Store.holds c.read_input.new.store) c.in_ok-original.ensures.contents
    c.in_ok-original.original c.in_ok-original.ensures.original stops

pub returns-in_err-written-clause-complete : goal.returns-in_err-written-clause-complete
returns-in_err-written-clause-complete g c = λ texts refusal held pass e.
    let old = g.S.Store.holds c.args.store.now in
    let refused = returns-in_err-written-clause-refused g c refusal e texts (held_for old c.args.input.now c.args.prefix.now refusal texts held) in
    c.passed_or_refused.ensures texts refusal pass refused

pub returns-clause-passes : goal.returns-clause-passes
returns-clause-passes g c =
    let old = g.S.Store.holds c.args.store.now in
    let mid = g.S.Store.holds c.read_input.new.store in
    let end = g.S.Store.holds c.read_netlist.new.store in
    let same = c.in_ok-written.ensures.contents ∙ c.in_ok-original.ensures.contents in
    let original = still_back old end c.args.input.now (IsInputOf c.in_ok-original.original) same c.in_ok-original.ensures.original in
    let written = still_back mid end (c.args.prefix.now ++ codes ".v") (IsNetlistOf c.in_ok-written.written) c.in_ok-written.ensures.contents c.in_ok-written.ensures.written in
    on_ok c.check_beside.result
    (λ passes.
    let p = passes c.args.input.now original written in
    files_pass old c.args.input.now c.args.prefix.now p.0 (subst (λ o. AreFilesOf o c.args.input.now c.args.prefix.now p.0) same p.1) p.2 p.3)
    c.check_beside.ensures.passes

pub returns-clause-always_refused : goal.returns-clause-always_refused
returns-clause-always_refused g c = λ texts refusal held refused.
    let old = g.S.Store.holds c.args.store.now in
    let mid = g.S.Store.holds c.read_input.new.store in
    let end = g.S.Store.holds c.read_netlist.new.store in
    let same = c.in_ok-written.ensures.contents ∙ c.in_ok-original.ensures.contents in
    let original = still_back old end c.args.input.now (IsInputOf c.in_ok-original.original) same c.in_ok-original.ensures.original in
    let written = still_back mid end (c.args.prefix.now ++ codes ".v") (IsNetlistOf c.in_ok-written.written) c.in_ok-written.ensures.contents c.in_ok-written.ensures.written in
    on_ok c.check_beside.result
    (λ passes.
    let p = passes c.args.input.now original written in
    c.told_or_refused.ensures old c.args.input.now c.args.prefix.now p.0 texts refusal (subst (λ o. AreFilesOf o c.args.input.now c.args.prefix.now p.0) same p.1) p.2 held refused)
    c.check_beside.ensures.passes

pub returns-clause-refused : goal.returns-clause-refused
returns-clause-refused g c = λ refusal e.
    let old = g.S.Store.holds c.args.store.now in
    let mid = g.S.Store.holds c.read_input.new.store in
    let end = g.S.Store.holds c.read_netlist.new.store in
    let same = c.in_ok-written.ensures.contents ∙ c.in_ok-original.ensures.contents in
    let original = still_back old end c.args.input.now (IsInputOf c.in_ok-original.original) same c.in_ok-original.ensures.original in
    let written = still_back mid end (c.args.prefix.now ++ codes ".v") (IsNetlistOf c.in_ok-written.written) c.in_ok-written.ensures.contents c.in_ok-written.ensures.written in
    subst (AreFilesRefused c.args.input.now c.args.prefix.now refusal) same (c.check_beside.ensures.refused refusal e c.args.input.now original written)

pub returns-clause-complete : goal.returns-clause-complete
returns-clause-complete g c = λ texts refusal held pass e.
    let old = g.S.Store.holds c.args.store.now in
    let refused = returns-clause-refused g c refusal e texts (held_for old c.args.input.now c.args.prefix.now refusal texts held) in
    c.passed_or_refused.ensures texts refusal pass refused

pub returns-clause-read : goal.returns-clause-read
returns-clause-read g c = λ e.
    rose_since (g.S.Store.read_faults c.args.store.now) (g.S.Store.read_faults c.read_input.new.store) (g.S.Store.read_faults c.check_beside.new.store) c.in_ok-original.ensures.later
    (rose_since (g.S.Store.read_faults c.read_input.new.store) (g.S.Store.read_faults c.read_netlist.new.store) (g.S.Store.read_faults c.check_beside.new.store) c.in_ok-written.ensures.later
    (c.check_beside.ensures.read e))
