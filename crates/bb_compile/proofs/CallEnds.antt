-- How a call ends by its text or its sample: what is made and a refusal never stand together.
use Rattle.std.proofs.Common.{◌≡◌, ℕ, ◌≤◌, Bool, false, List, length, subst}
use Rattle.std.specs.Prelude.{Result, Ok, Err}
use Rattle.bb_base.specs.Net.{Gate}
use Rattle.bb_base.specs.Order.{IsOrder}
use Rattle.bb_base.specs.Named.{Named}
use Rattle.bb_words.specs.declared.command.Settings.{Settings}
use Rattle.bb_choose.specs.Arranged.{AreInRange}
use Rattle.bb_choose.specs.Enough.{IsEnough}
use Rattle.bb_make.specs.Artifacts.{ArtifactsValue, AreArtifacts}
use Rattle.bb_read.specs.Ready.{IsReady}
use Rattle.bb_sample.specs.Sample.{sample_of}
use Rattle.bb_read.specs.declared.refusal.TextRefusal.{TextRefusal}
use Rattle.bb_read.specs.declared.refusal.Refusal.{Refusal}
use Rattle.bb_read.specs.declared.refusal.Refusal.TheVariants.{Input, Plan, Netlist, Schedule, Signatures, Certificate, Check}
use Rattle.bb_read.specs.Texts.{file_limit, IsReadable, ComesTo}
use Rattle.bb_compile.specs.Made.{IsMade, IsMadeSample}
use Rattle.bb_compile.specs.Causes.{IsPlanRefused, IsNetlistRefused, IsRefused, IsSampleRefused}
use Rattle.bb_compile.proofs.PlanEnds.{OneArrangement, EnoughLaws, not_both, not_lacking, netlist_made, netlist_roomy}

-- each text comes to one end
abbrev pub OneEnd : Type 0
OneEnd = (own : Bool) (limit : ℕ) (text : List ℕ) (a b : Result Named TextRefusal) → ComesTo own limit text a → ComesTo own limit text b → a ≡ b

abbrev pub OneOrder : Type 0
OneOrder = (gates : List (Gate ℕ)) (order other : List ℕ) → IsOrder gates order → IsOrder gates other → order ≡ other

abbrev pub AllReady : Type 0
AllReady = (text : List ℕ) (a : Named) → IsReadable a text → IsReady a

-- a text denotes one netlist
one_named : (ends : OneEnd) (text : List ℕ) (a b : Named) → length text ≤ file_limit → IsReadable a text → IsReadable b text → a ≡ b
one_named ends text a b small h k = same (ends false file_limit text (Ok a) (Ok b) (small, h) (small, k))
  where
    same : ◌≡◌ {A = Result Named TextRefusal} (Ok a) (Ok b) → a ≡ b
    same e = cc

-- and a text that denotes one isn't refused
unrefused : (ends : OneEnd) (text : List ℕ) (a : Named) (refusal : TextRefusal) → length text ≤ file_limit → IsReadable a text → ComesTo false file_limit text (Err refusal) → ⊥
unrefused ends text a refusal small h k = cc (ends false file_limit text (Ok a) (Err refusal) (small, h) k)

-- a refusal of the netlist that a text denotes is one of the text
pub text_refused : (settings : Settings) (text : List ℕ) (a : Named) (order : List ℕ) (refusal : Refusal) → length text ≤ file_limit → IsReadable a text
    → IsOrder a.netlist.gates order → IsNetlistRefused a order settings refusal → IsRefused settings refusal text
text_refused settings text a order (Input refusal) short readable ordered is = absurd is
text_refused settings text a order (Plan refusal) short readable ordered is = record { short = short; original = a; readable = readable; order = order; ordered = ordered; refused = is }
text_refused settings text a order (Netlist refusal) short readable ordered is = is
text_refused settings text a order (Schedule refusal) short readable ordered is = is
text_refused settings text a order (Signatures refusal) short readable ordered is = is
text_refused settings text a order (Certificate refusal) short readable ordered is = is
text_refused settings text a order (Check rule place) short readable ordered is = is

-- a text of which something is made has no refusal
pub never_both : (ends : OneEnd) (order : OneOrder) (ready : AllReady) (arrangement : OneArrangement)
    (settings : Settings) (text : List ℕ) (made : ArtifactsValue) (refusal : Refusal) → IsMade settings text made → IsRefused settings refusal text → ⊥
never_both ends order ready arrangement settings text made (Input refusal) is h = unrefused ends text is.original refusal is.short is.readable h
never_both ends order ready arrangement settings text made (Plan refusal) is h =
    let same : is.original ≡ h.original = one_named ends text is.original h.original is.short is.readable h.readable in
    let ordered : IsOrder h.original.netlist.gates is.order = subst (λ (a : Named). IsOrder a.netlist.gates is.order) same is.ordered in
    let orders : is.order ≡ h.order = order h.original.netlist.gates is.order h.order ordered h.ordered in
    let artifacts = subst (λ o. AreArtifacts h.original o settings made) orders (subst (λ (a : Named). AreArtifacts a is.order settings made) same is.artifacts) in
    not_both h.original h.order settings made arrangement (ready text h.original h.readable).named.netlist artifacts refusal h.refused
never_both ends order ready arrangement settings text made (Netlist refusal) is h = h
never_both ends order ready arrangement settings text made (Schedule refusal) is h = h
never_both ends order ready arrangement settings text made (Signatures refusal) is h = h
never_both ends order ready arrangement settings text made (Certificate refusal) is h = h
never_both ends order ready arrangement settings text made (Check rule place) is h = h

-- neither has one whose netlist has room for a plan
pub never_lacking : (ends : OneEnd) (orders : OneOrder) (ready : AllReady) (laws : EnoughLaws)
    (settings : Settings) (text : List ℕ) (a : Named) (order : List ℕ) (refusal : Refusal) → AreInRange settings → length text ≤ file_limit → IsReadable a text
    → IsOrder a.netlist.gates order → IsEnough a.netlist order settings → IsRefused settings refusal text → ⊥
never_lacking ends orders ready laws settings text a order (Input refusal) range small readable ordered enough h = unrefused ends text a refusal small readable h
never_lacking ends orders ready laws settings text a order (Plan refusal) range small readable ordered enough h =
    let same : h.original ≡ a = one_named ends text h.original a small h.readable readable in
    let behind : IsOrder a.netlist.gates h.order = subst (λ (b : Named). IsOrder b.netlist.gates h.order) same h.ordered in
    let one : h.order ≡ order = orders a.netlist.gates h.order order behind ordered in
    let refused = subst (λ o. IsPlanRefused a o settings refusal) one (subst (λ (b : Named). IsPlanRefused b h.order settings refusal) same h.refused) in
    not_lacking laws a order settings refusal (ready text a readable).named.netlist range enough refused
never_lacking ends orders ready laws settings text a order (Netlist refusal) range small readable ordered enough h = h
never_lacking ends orders ready laws settings text a order (Schedule refusal) range small readable ordered enough h = h
never_lacking ends orders ready laws settings text a order (Signatures refusal) range small readable ordered enough h = h
never_lacking ends orders ready laws settings text a order (Certificate refusal) range small readable ordered enough h = h
never_lacking ends orders ready laws settings text a order (Check rule place) range small readable ordered enough h = h

abbrev pub SamplesReady : Type 0
SamplesReady = (number : ℕ) → 1 ≤ number → number ≤ 65536 → IsReady (sample_of number)

-- a sample of which something is made has no refusal
pub sample_never_both : (orders : OneOrder) (ready : SamplesReady) (arrangement : OneArrangement)
    (settings : Settings) (number : ℕ) (made : ArtifactsValue) (refusal : Refusal) → 1 ≤ number → number ≤ 65536
    → IsMadeSample settings number made → IsSampleRefused settings number refusal → ⊥
sample_never_both orders ready arrangement settings number made refusal some few is h =
    let a = sample_of number in
    let one : is.order ≡ h.order = orders a.netlist.gates is.order h.order is.ordered h.ordered in
    netlist_made a h.order settings made arrangement (ready number some few).named.netlist (subst (λ o. AreArtifacts a o settings made) one is.artifacts) refusal h.refused

-- neither has one that has room for a plan
pub sample_never_lacking : (orders : OneOrder) (ready : SamplesReady) (laws : EnoughLaws)
    (settings : Settings) (number : ℕ) (order : List ℕ) (refusal : Refusal) → AreInRange settings → 1 ≤ number → number ≤ 65536
    → IsOrder (sample_of number).netlist.gates order → IsEnough (sample_of number).netlist order settings → IsSampleRefused settings number refusal → ⊥
sample_never_lacking orders ready laws settings number order refusal range some few ordered enough h =
    let a = sample_of number in
    let one : h.order ≡ order = orders a.netlist.gates h.order order h.ordered ordered in
    netlist_roomy laws a order settings refusal (ready number some few).named.netlist range enough (subst (λ o. IsNetlistRefused a o settings refusal) one h.refused)
