use Rattle.std.proofs.lemmas.Result.{err_from_is_err_and}
use Rattle.bb_base.specs.Named.{design_of}
use Rattle.bb_spell.proofs.Texts.{design_text}
use Rattle.bb_canon.proofs.SectionsOf.{sections_of, the_end}
use Rattle.std.proofs.Common.{◌≡◌, sym, ap, ◌∙◌, [], refl, subst, is_some}
use Rattle.bb_canon.specs.Along.{clock_text, VariablesLeft, GatesLeft, FlopsLeft}
use Rattle.bb_canon.specs.Toward.{IsDrawn, IsDeclared}
use Rattle.bb_canon.proofs.Draws.{declared_drawn}
use Rattle.bb_canon.proofs.Whole.{wholly, clock_left}
use Rattle.bb_canon.proofs.Redrawn.{nothing_declared}
use Rattle.std.proofs.lemmas.Option.{same_Some}
use Rattle.bb_canon.proofs.read.read_text.Goals as goal

pub returns-in_err-name-clause-want : goal.returns-in_err-name-clause-want
returns-in_err-name-clause-want c = λ a b n e.
    let w = wholly a c.args.text.now n e in
    let p = err_from_is_err_and c.from_residual-in_err-name.result c.from_residual-in_err-name.ensures.1 in
    rw (p.1, p.2) (c.in_err-name.ensures.want w.head w.body w.first (ap is_some w.says))

pub returns-in_err-rest-clause-want : goal.returns-in_err-rest-clause-want
returns-in_err-rest-clause-want c = λ a b n e.
    let w = wholly a c.args.text.now n e in
    let s = sections_of (design_of a) c.args.text.now (design_text a n) e in
    let body = c.in_ok-name.ensures.rest w.head w.body w.first in
    let name : c.in_ok-name.name ≡ a.module_name = same_Some c.in_ok-name.name a.module_name (sym (c.in_ok-name.ensures.name w.head w.body w.first) ∙ w.says) in
    let clock : c.in_ok-clock.clock ≡ clock_text a = c.in_ok-clock.ensures.clock a (clock_left a c.args.text.now n e) in
    let vars : VariablesLeft a c.in_ok-draft.draft c.in_ok-name.rest.now w.gates = record { left = a.variables; declared = nothing_declared a c.in_ok-draft.draft c.in_ok-name.name b.named c.in_ok-draft.ensures.started name; along = w.one c.in_ok-name.rest.now body } in
    let p = err_from_is_err_and c.from_residual-in_err-rest.result c.from_residual-in_err-rest.ensures.1 in
    rw (p.1, p.2) (c.in_err-rest.ensures.want a w.gates b clock vars)

pub returns-in_err-rest-2-clause-want : goal.returns-in_err-rest-2-clause-want
returns-in_err-rest-2-clause-want c = λ a b n e.
    let w = wholly a c.args.text.now n e in
    let s = sections_of (design_of a) c.args.text.now (design_text a n) e in
    let body = c.in_ok-name.ensures.rest w.head w.body w.first in
    let name : c.in_ok-name.name ≡ a.module_name = same_Some c.in_ok-name.name a.module_name (sym (c.in_ok-name.ensures.name w.head w.body w.first) ∙ w.says) in
    let clock : c.in_ok-clock.clock ≡ clock_text a = c.in_ok-clock.ensures.clock a (clock_left a c.args.text.now n e) in
    let vars : VariablesLeft a c.in_ok-draft.draft c.in_ok-name.rest.now w.gates = record { left = a.variables; declared = nothing_declared a c.in_ok-draft.draft c.in_ok-name.name b.named c.in_ok-draft.ensures.started name; along = w.one c.in_ok-name.rest.now body } in
    let declared : IsDeclared a c.read_declarations.new.draft [] = c.in_ok-rest.ensures.declared a w.gates b clock vars in
    let gates_text = c.in_ok-rest.ensures.rest s.gates (s.one c.in_ok-name.rest.now body) in
    let gates : GatesLeft a c.read_declarations.new.draft c.in_ok-rest.rest.now w.flops = record { done = []; left = a.netlist.gates; whole = refl; drawn = declared_drawn a c.read_declarations.new.draft b.named declared; along = w.two c.in_ok-rest.rest.now gates_text } in
    let p = err_from_is_err_and c.from_residual-in_err-rest-2.result c.from_residual-in_err-rest-2.ensures.1 in
    rw (p.1, p.2) (c.in_err-rest-2.ensures.want a w.flops b gates)

pub returns-in_err-rest-3-clause-want : goal.returns-in_err-rest-3-clause-want
returns-in_err-rest-3-clause-want c = λ a b n e.
    let w = wholly a c.args.text.now n e in
    let s = sections_of (design_of a) c.args.text.now (design_text a n) e in
    let body = c.in_ok-name.ensures.rest w.head w.body w.first in
    let name : c.in_ok-name.name ≡ a.module_name = same_Some c.in_ok-name.name a.module_name (sym (c.in_ok-name.ensures.name w.head w.body w.first) ∙ w.says) in
    let clock : c.in_ok-clock.clock ≡ clock_text a = c.in_ok-clock.ensures.clock a (clock_left a c.args.text.now n e) in
    let vars : VariablesLeft a c.in_ok-draft.draft c.in_ok-name.rest.now w.gates = record { left = a.variables; declared = nothing_declared a c.in_ok-draft.draft c.in_ok-name.name b.named c.in_ok-draft.ensures.started name; along = w.one c.in_ok-name.rest.now body } in
    let declared : IsDeclared a c.read_declarations.new.draft [] = c.in_ok-rest.ensures.declared a w.gates b clock vars in
    let gates_text = c.in_ok-rest.ensures.rest s.gates (s.one c.in_ok-name.rest.now body) in
    let gates : GatesLeft a c.read_declarations.new.draft c.in_ok-rest.rest.now w.flops = record { done = []; left = a.netlist.gates; whole = refl; drawn = declared_drawn a c.read_declarations.new.draft b.named declared; along = w.two c.in_ok-rest.rest.now gates_text } in
    let drawn : IsDrawn a c.read_gates.new.draft a.netlist.gates [] = c.in_ok-rest-2.ensures.drawn a w.flops b gates in
    let flops_text = c.in_ok-rest-2.ensures.rest s.flops (s.two c.in_ok-rest.rest.now gates_text) in
    let flops : FlopsLeft a c.read_gates.new.draft c.in_ok-rest-2.rest.now the_end = record { done = []; left = a.netlist.flops; whole = refl; drawn = drawn; along = w.three c.in_ok-rest-2.rest.now flops_text } in
    let p = err_from_is_err_and c.from_residual-in_err-rest-3.result c.from_residual-in_err-rest-3.ensures.1 in
    rw (p.1, p.2) (c.in_err-rest-3.ensures.want a the_end b flops)

pub returns-in_err-read_end-clause-want : goal.returns-in_err-read_end-clause-want
returns-in_err-read_end-clause-want c = λ a b n e.
    let s = sections_of (design_of a) c.args.text.now (design_text a n) e in
    let body = c.in_ok-name.ensures.rest s.head s.body s.first in
    let gates = c.in_ok-rest.ensures.rest s.gates (s.one c.in_ok-name.rest.now body) in
    let flops = c.in_ok-rest-2.ensures.rest s.flops (s.two c.in_ok-rest.rest.now gates) in
    let last = c.in_ok-rest-3.ensures.rest _ (s.three c.in_ok-rest-2.rest.now flops) in
    let ok = c.in_err-read_end.ensures.end last in
    cc ok

pub returns-in_err-named-clause-want : goal.returns-in_err-named-clause-want
returns-in_err-named-clause-want c = λ a b n e.
    let w = wholly a c.args.text.now n e in
    let s = sections_of (design_of a) c.args.text.now (design_text a n) e in
    let body = c.in_ok-name.ensures.rest w.head w.body w.first in
    let name : c.in_ok-name.name ≡ a.module_name = same_Some c.in_ok-name.name a.module_name (sym (c.in_ok-name.ensures.name w.head w.body w.first) ∙ w.says) in
    let clock : c.in_ok-clock.clock ≡ clock_text a = c.in_ok-clock.ensures.clock a (clock_left a c.args.text.now n e) in
    let vars : VariablesLeft a c.in_ok-draft.draft c.in_ok-name.rest.now w.gates = record { left = a.variables; declared = nothing_declared a c.in_ok-draft.draft c.in_ok-name.name b.named c.in_ok-draft.ensures.started name; along = w.one c.in_ok-name.rest.now body } in
    let declared : IsDeclared a c.read_declarations.new.draft [] = c.in_ok-rest.ensures.declared a w.gates b clock vars in
    let gates_text = c.in_ok-rest.ensures.rest s.gates (s.one c.in_ok-name.rest.now body) in
    let gates : GatesLeft a c.read_declarations.new.draft c.in_ok-rest.rest.now w.flops = record { done = []; left = a.netlist.gates; whole = refl; drawn = declared_drawn a c.read_declarations.new.draft b.named declared; along = w.two c.in_ok-rest.rest.now gates_text } in
    let drawn : IsDrawn a c.read_gates.new.draft a.netlist.gates [] = c.in_ok-rest-2.ensures.drawn a w.flops b gates in
    let flops_text = c.in_ok-rest-2.ensures.rest s.flops (s.two c.in_ok-rest.rest.now gates_text) in
    let flops : FlopsLeft a c.read_gates.new.draft c.in_ok-rest-2.rest.now the_end = record { done = []; left = a.netlist.flops; whole = refl; drawn = drawn; along = w.three c.in_ok-rest-2.rest.now flops_text } in
    let whole : IsDrawn a c.read_flops.new.draft a.netlist.gates a.netlist.flops = c.in_ok-rest-3.ensures.drawn a the_end b flops in
    let p = err_from_is_err_and c.from_residual-in_err-named.result c.from_residual-in_err-named.ensures.1 in
    rw (p.1, p.2) (c.in_err-named.ensures.want a b whole)

pub returns-clause-drawn : goal.returns-clause-drawn
returns-clause-drawn c = λ a b n e.
    let w = wholly a c.args.text.now n e in
    let s = sections_of (design_of a) c.args.text.now (design_text a n) e in
    let body = c.in_ok-name.ensures.rest w.head w.body w.first in
    let name : c.in_ok-name.name ≡ a.module_name = same_Some c.in_ok-name.name a.module_name (sym (c.in_ok-name.ensures.name w.head w.body w.first) ∙ w.says) in
    let clock : c.in_ok-clock.clock ≡ clock_text a = c.in_ok-clock.ensures.clock a (clock_left a c.args.text.now n e) in
    let vars : VariablesLeft a c.in_ok-draft.draft c.in_ok-name.rest.now w.gates = record { left = a.variables; declared = nothing_declared a c.in_ok-draft.draft c.in_ok-name.name b.named c.in_ok-draft.ensures.started name; along = w.one c.in_ok-name.rest.now body } in
    let declared : IsDeclared a c.read_declarations.new.draft [] = c.in_ok-rest.ensures.declared a w.gates b clock vars in
    let gates_text = c.in_ok-rest.ensures.rest s.gates (s.one c.in_ok-name.rest.now body) in
    let gates : GatesLeft a c.read_declarations.new.draft c.in_ok-rest.rest.now w.flops = record { done = []; left = a.netlist.gates; whole = refl; drawn = declared_drawn a c.read_declarations.new.draft b.named declared; along = w.two c.in_ok-rest.rest.now gates_text } in
    let drawn : IsDrawn a c.read_gates.new.draft a.netlist.gates [] = c.in_ok-rest-2.ensures.drawn a w.flops b gates in
    let flops_text = c.in_ok-rest-2.ensures.rest s.flops (s.two c.in_ok-rest.rest.now gates_text) in
    let flops : FlopsLeft a c.read_gates.new.draft c.in_ok-rest-2.rest.now the_end = record { done = []; left = a.netlist.flops; whole = refl; drawn = drawn; along = w.three c.in_ok-rest-2.rest.now flops_text } in
    let whole : IsDrawn a c.read_flops.new.draft a.netlist.gates a.netlist.flops = c.in_ok-rest-3.ensures.drawn a the_end b flops in
    subst (λ k. IsDrawn a k a.netlist.gates a.netlist.flops) (sym c.in_ok-named.ensures.named) whole
