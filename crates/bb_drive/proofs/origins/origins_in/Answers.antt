use Rattle.std.proofs.Common.{◌≡◌, ◌<◌, ◌∙◌, ℕ, List, sym, ap, arith, length, Some}
use Rattle.std.specs.Prelude.{Option}
use Rattle.bb_base.specs.Net.{Gate}
use Rattle.bb_fault.specs.Work.{Work}
use Rattle.bb_drive.specs.Within.{IsWithin}
use Rattle.bb_drive.specs.Clock.{copied_net}
use Rattle.bb_drive.specs.Origins.{entry_at}
use Rattle.bb_drive.proofs.OriginLaws.{entry_within}
use Rattle.bb_drive.proofs.LabelLaws.{origins_done, back_within, ok_then}
use Rattle.bb_drive.proofs.origins.origins_in.Goals as goal

-- the table is that of the work's gates
each_of :
    (work : Work) (fresh : ℕ) (gates : List (Gate ℕ)) (items backs : List (Option ℕ)) → fresh ≡ work.fresh → gates ≡ work.gates → backs ≡ items
    → ((b : ℕ) → b < fresh → entry_at items b ≡ copied_net gates b) → (b : ℕ) → b < work.fresh → entry_at backs b ≡ copied_net work.gates b
each_of work fresh gates items backs same_fresh same_gates same_items each b small =
    ap (λ bs. entry_at bs b) same_items ∙ (each b (omega arith) ∙ ap (λ gs. copied_net gs b) same_gates)

inside_of :
    (work : Work) (backs : List (Option ℕ)) → IsWithin work → length backs ≡ work.fresh → ((b : ℕ) → b < work.fresh → entry_at backs b ≡ copied_net work.gates b)
    → (b a : ℕ) → entry_at backs b ≡ Some a → a < length backs
inside_of work backs within long each b a h =
    let small = entry_within backs b a h in
    let stands = back_within work b a within (sym (each b (omega arith)) ∙ h) in
    omega arith

pub spread-requires-clause-inside : goal.spread-requires-clause-inside
spread-requires-clause-inside c =
    let fresh = ap (λ (w : Work). w.fresh) c.work.view_is in
    let gates = c.deref.ensures.value ∙ ap (λ (w : Work). w.gates) c.work.view_is in
    let backs = c.deref-2.ensures.value in
    let each = each_of c.args.work.now c.work.inside.fresh c.deref.result.now c.in_ok-backs.backs.items c.deref-2.result.now fresh gates backs c.in_ok-backs.ensures.each in
    inside_of c.args.work.now c.deref-2.result.now c.requires.within (ap length backs ∙ (c.in_ok-backs.ensures.long ∙ fresh)) each

pub returns : goal.returns
returns c =
    let fresh = ap (λ (w : Work). w.fresh) c.work.view_is in
    let gates = c.deref.ensures.value ∙ ap (λ (w : Work). w.gates) c.work.view_is in
    let backs = c.deref-2.ensures.value in
    let each = each_of c.args.work.now c.work.inside.fresh c.deref.result.now c.in_ok-backs.backs.items c.deref-2.result.now fresh gates backs c.in_ok-backs.ensures.each in
    let long = ap length backs ∙ (c.in_ok-backs.ensures.long ∙ fresh) in
    let inside = inside_of c.args.work.now c.deref-2.result.now c.requires.within long each in
    ok_then c.spread.result c.spread.ensures (λ labels all. origins_done c.args.work.now c.deref-2.result.now c.args.roots.now labels.items long c.requires.long each inside c.requires.free
    (all c.args.work.now.gates (λ b small. each b (omega arith))))
