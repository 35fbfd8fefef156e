-- The kinds of the cells on a net, as tables keep them.
use Rattle.std.proofs.Common.{◌≡◌, ◌≢◌, ◌⊎◌, inl, inr, ℕ, ◌+◌, ◌<◌, ◌==◌, ◌&&◌, ◌||◌, List, [], ◌∷◌, length, take, fold, cond, get_or, slice_set, Bool, true, false, refl, sym, ap, subst, ◌∙◌, arith, slice_get, Some, Contains}
use Rattle.std.proofs.lemmas.Bool.Decides.{nat_tests}
use Rattle.std.proofs.lemmas.Grind.{common_steps}
use Rattle.std.proofs.lemmas.Option.{gets}
use Rattle.bb_base.proofs.Contained.{here, there, either, none_in, place_of, contains_at}
use Rattle.bb_terms.specs.declared.kind.Kind.{Kind}
use Rattle.bb_terms.specs.declared.kind.Kind.TheVariants.{Input, State, Split, Cut, Watch, Output}
use Rattle.bb_terms.specs.declared.plan.Cell.{Cell}
use Rattle.bb_terms.specs.Kinds.{is_source, takes_d, takes_net}
use Rattle.bb_terms.specs.Rules.{meet}
use Rattle.bb_plan.specs.declared.table.OnNet.{OnNet}
use Rattle.bb_plan.specs.Tables.{blank, has, with_kind, meets, noted, on_net, IsApartIn}
use Rattle.bb_plan.proofs.Items.{in_front_of, front_has}

pub and_split : (a b : Bool) → (a && b) ≡ true → (a ≡ true) × (b ≡ true)
and_split true b h = (refl, h)
and_split false b h = absurd (cc h)

pub and_join : (a b : Bool) → a ≡ true → b ≡ true → (a && b) ≡ true
and_join true b h k = k
and_join false b h k = h

pub or_split : (a b : Bool) → (a || b) ≡ true → (a ≡ true) ⊎ (b ≡ true)
or_split true b h = inl refl
or_split false b h = inr h

pub or_left : (a b : Bool) → a ≡ true → (a || b) ≡ true
or_left true b h = refl
or_left false b h = absurd (cc h)

pub or_right : (a b : Bool) → b ≡ true → (a || b) ≡ true
or_right true b h = refl
or_right false b h = h

-- a kind more: that kind, and those before
pub with_mine : (on : OnNet) (k : Kind) → has (with_kind on k) k ≡ true
with_mine on Input = refl
with_mine on State = refl
with_mine on Split = refl
with_mine on Cut = refl
with_mine on Watch = refl
with_mine on Output = refl

with_old : (on : OnNet) (j k : Kind) → has on k ≡ true → has (with_kind on j) k ≡ true
with_old on Input Input h = refl
with_old on Input _ h = h
with_old on State State h = refl
with_old on State _ h = h
with_old on Split Split h = refl
with_old on Split _ h = h
with_old on Cut Cut h = refl
with_old on Cut _ h = h
with_old on Watch Watch h = refl
with_old on Watch _ h = h
with_old on Output Output h = refl
with_old on Output _ h = h

with_only : (on : OnNet) (j k : Kind) → has (with_kind on j) k ≡ true → (has on k ≡ true) ⊎ (j ≡ k)
with_only on Input Input h = inr refl
with_only on Input _ h = inl h
with_only on State State h = inr refl
with_only on State _ h = inl h
with_only on Split Split h = inr refl
with_only on Split _ h = inl h
with_only on Cut Cut h = inr refl
with_only on Cut _ h = inl h
with_only on Watch Watch h = inr refl
with_only on Watch _ h = inl h
with_only on Output Output h = inr refl
with_only on Output _ h = inl h

-- a net without cells has no kind
blank_has : (k : Kind) → has blank k ≡ true → ⊥
blank_has Input h = absurd (cc h)
blank_has State h = absurd (cc h)
blank_has Split h = absurd (cc h)
blank_has Cut h = absurd (cc h)
blank_has Watch h = absurd (cc h)
blank_has Output h = absurd (cc h)

-- a cell of this kind among these is on the net
pub record HasCell (cells : List Cell) (net : ℕ) (k : Kind) : Type 0 where
  pub cell : Cell
  pub stands : Contains cells cell
  pub on : cell.net ≡ net
  pub kind : cell.kind ≡ k

later : (c : Cell) (cells : List Cell) (net : ℕ) (k : Kind) → HasCell cells net k → HasCell (c ∷ cells) net k
later c cells net k h = record { cell = h.cell; stands = there c cells h.cell h.stands; on = h.on; kind = h.kind }

old_kept : (cells : List Cell) (net : ℕ) (on : OnNet) (k : Kind) → has on k ≡ true → has (fold (noted net) on cells) k ≡ true
old_kept [] net on k h = h
old_kept (c ∷ cells) net on k h = old_kept cells net (noted net on c) k (by (c.net == net))
  where
    by : (b : Bool) → has (cond b (with_kind on c.kind) on) k ≡ true
    by true = with_old on c.kind k h
    by false = h

from_cells : (cells : List Cell) (net : ℕ) (on : OnNet) (k : Kind) → has (fold (noted net) on cells) k ≡ true → (has on k ≡ true) ⊎ HasCell cells net k
from_cells [] net on k h = inl h
from_cells (c ∷ cells) net on k h = go (from_cells cells net (noted net on c) k h)
  where
    by : (b : Bool) → (c.net == net) ≡ b → has (cond b (with_kind on c.kind) on) k ≡ true → (has on k ≡ true) ⊎ HasCell (c ∷ cells) net k
    by false e first = inl first
    by true e first = of (with_only on c.kind k first)
      where
        of : (has on k ≡ true) ⊎ (c.kind ≡ k) → (has on k ≡ true) ⊎ HasCell (c ∷ cells) net k
        of (inl old) = inl old
        of (inr same) = inr (record { cell = c; stands = here c cells; on = grind (arith, nat_tests, e); kind = same })

    go : (has (noted net on c) k ≡ true) ⊎ HasCell cells net k → (has on k ≡ true) ⊎ HasCell (c ∷ cells) net k
    go (inl first) = by (c.net == net) refl first
    go (inr more) = inr (later c cells net k more)

cells_kept : (cells : List Cell) (net : ℕ) (on : OnNet) (c : Cell) → Contains cells c → c.net ≡ net → has (fold (noted net) on cells) c.kind ≡ true
cells_kept [] net on c stands at = absurd (none_in c stands)
cells_kept (d ∷ cells) net on c stands at = go (either d cells c stands) (λ more. cells_kept cells net (noted net on d) c more at)
  where
    mine : d ≡ c → has (noted net on d) c.kind ≡ true
    mine same =
        let test : (d.net == net) ≡ true = let e : d.net ≡ net = ap (λ (x : Cell). x.net) same ∙ at in grind (arith, nat_tests, e) in
        ap (λ b. has (cond b (with_kind on d.kind) on) c.kind) test ∙ ap (λ (x : Cell). has (with_kind on x.kind) c.kind) same ∙ with_mine on c.kind

    go : (d ≡ c) ⊎ Contains cells c → (Contains cells c → has (fold (noted net) (noted net on d) cells) c.kind ≡ true) → has (fold (noted net) (noted net on d) cells) c.kind ≡ true
    go (inl same) rest = old_kept cells net (noted net on d) c.kind (mine same)
    go (inr more) rest = rest more

-- the kinds on a net are those of the cells on it
pub has_cell : (cells : List Cell) (net : ℕ) (k : Kind) → has (on_net cells net) k ≡ true → HasCell cells net k
has_cell cells net k h = go (from_cells cells net blank k h)
  where
    go : (has blank k ≡ true) ⊎ HasCell cells net k → HasCell cells net k
    go (inl none) = absurd (blank_has k none)
    go (inr some) = some

pub cell_has : (cells : List Cell) (net : ℕ) (k : Kind) → HasCell cells net k → has (on_net cells net) k ≡ true
cell_has cells net k h = subst (λ j. has (on_net cells net) j ≡ true) h.kind (cells_kept cells net blank h.cell h.stands h.on)

-- a kind on the net in one of three roles
HasRole : OnNet → (Kind → Bool) → Type 0
HasRole on role = (k : Kind) × (has on k ≡ true) × (role k ≡ true)

source_of : (on : OnNet) → (((on.input || on.state) || on.split) || on.cut) ≡ true → HasRole on is_source
unfolding HasRole
source_of on h = a (or_split ((on.input || on.state) || on.split) on.cut h)
  where
    c : (on.input ≡ true) ⊎ (on.state ≡ true) → (k : Kind) × (has on k ≡ true) × (is_source k ≡ true)
    c (inl e) = (Input, e, refl)
    c (inr e) = (State, e, refl)

    b : ((on.input || on.state) ≡ true) ⊎ (on.split ≡ true) → (k : Kind) × (has on k ≡ true) × (is_source k ≡ true)
    b (inl e) = c (or_split on.input on.state e)
    b (inr e) = (Split, e, refl)

    a : (((on.input || on.state) || on.split) ≡ true) ⊎ (on.cut ≡ true) → (k : Kind) × (has on k ≡ true) × (is_source k ≡ true)
    a (inl e) = b (or_split (on.input || on.state) on.split e)
    a (inr e) = (Cut, e, refl)

d_of : (on : OnNet) → (on.state || on.watch) ≡ true → HasRole on takes_d
unfolding HasRole
d_of on h = a (or_split on.state on.watch h)
  where
    a : (on.state ≡ true) ⊎ (on.watch ≡ true) → (k : Kind) × (has on k ≡ true) × (takes_d k ≡ true)
    a (inl e) = (State, e, refl)
    a (inr e) = (Watch, e, refl)

net_of : (on : OnNet) → (on.cut || on.output) ≡ true → HasRole on takes_net
unfolding HasRole
net_of on h = a (or_split on.cut on.output h)
  where
    a : (on.cut ≡ true) ⊎ (on.output ≡ true) → (k : Kind) × (has on k ≡ true) × (takes_net k ≡ true)
    a (inl e) = (Cut, e, refl)
    a (inr e) = (Output, e, refl)

source_has : (on : OnNet) (k : Kind) → has on k ≡ true → is_source k ≡ true → (((on.input || on.state) || on.split) || on.cut) ≡ true
source_has on Input h e = or_left ((on.input || on.state) || on.split) on.cut (or_left (on.input || on.state) on.split (or_left on.input on.state h))
source_has on State h e = or_left ((on.input || on.state) || on.split) on.cut (or_left (on.input || on.state) on.split (or_right on.input on.state h))
source_has on Split h e = or_left ((on.input || on.state) || on.split) on.cut (or_right (on.input || on.state) on.split h)
source_has on Cut h e = or_right ((on.input || on.state) || on.split) on.cut h
source_has on Watch h e = absurd (cc e)
source_has on Output h e = absurd (cc e)

d_has : (on : OnNet) (k : Kind) → has on k ≡ true → takes_d k ≡ true → (on.state || on.watch) ≡ true
d_has on Input h e = absurd (cc e)
d_has on State h e = or_left on.state on.watch h
d_has on Split h e = absurd (cc e)
d_has on Cut h e = absurd (cc e)
d_has on Watch h e = or_right on.state on.watch h
d_has on Output h e = absurd (cc e)

net_has : (on : OnNet) (k : Kind) → has on k ≡ true → takes_net k ≡ true → (on.cut || on.output) ≡ true
net_has on Input h e = absurd (cc e)
net_has on State h e = absurd (cc e)
net_has on Split h e = absurd (cc e)
net_has on Cut h e = or_left on.cut on.output h
net_has on Watch h e = absurd (cc e)
net_has on Output h e = or_right on.cut on.output h

-- the net has a kind that meets this one
MeetsOne : OnNet → Kind → Type 0
MeetsOne on kind = (k : Kind) × (has on k ≡ true) × (meet k kind ≡ true)

meets_one : (on : OnNet) (kind : Kind) → meets on kind ≡ true → MeetsOne on kind
unfolding MeetsOne HasRole
meets_one on kind h = three (or_split (is_source kind && S || takes_d kind && D) (takes_net kind && N) h)
  where
    S : Bool
    S = ((on.input || on.state) || on.split) || on.cut

    D : Bool
    D = on.state || on.watch

    N : Bool
    N = on.cut || on.output

    two : ((is_source kind && S) ≡ true) ⊎ ((takes_d kind && D) ≡ true) → (k : Kind) × (has on k ≡ true) × (meet k kind ≡ true)
    two (inl e) =
        let parts = and_split (is_source kind) S e in
        let one = source_of on parts.1 in
        (one.0, one.1, or_left (is_source one.0 && is_source kind) _ (and_join (is_source one.0) (is_source kind) one.2 parts.0))
    two (inr e) =
        let parts = and_split (takes_d kind) D e in
        let one = d_of on parts.1 in
        (one.0, one.1, or_right (is_source one.0 && is_source kind) _ (or_left (takes_d one.0 && takes_d kind) _ (and_join (takes_d one.0) (takes_d kind) one.2 parts.0)))

    three : ((is_source kind && S || takes_d kind && D) ≡ true) ⊎ ((takes_net kind && N) ≡ true) → (k : Kind) × (has on k ≡ true) × (meet k kind ≡ true)
    three (inl e) = two (or_split (is_source kind && S) (takes_d kind && D) e)
    three (inr e) =
        let parts = and_split (takes_net kind) N e in
        let one = net_of on parts.1 in
        (one.0, one.1, or_right (is_source one.0 && is_source kind) _ (or_right (takes_d one.0 && takes_d kind) _ (and_join (takes_net one.0) (takes_net kind) one.2 parts.0)))

-- and where it has none, it meets none
meets_of : (on : OnNet) (k kind : Kind) → has on k ≡ true → meet k kind ≡ true → meets on kind ≡ true
meets_of on k kind h e = one (or_split (is_source k && is_source kind) _ e)
  where
    S : Bool
    S = ((on.input || on.state) || on.split) || on.cut

    D : Bool
    D = on.state || on.watch

    N : Bool
    N = on.cut || on.output

    two : ((takes_d k && takes_d kind) ≡ true) ⊎ ((takes_net k && takes_net kind) ≡ true) → ((is_source kind && S || takes_d kind && D) || takes_net kind && N) ≡ true
    two (inl e) =
        let parts = and_split (takes_d k) (takes_d kind) e in
        or_left (is_source kind && S || takes_d kind && D) _ (or_right (is_source kind && S) _ (and_join (takes_d kind) D parts.1 (d_has on k h parts.0)))
    two (inr e) =
        let parts = and_split (takes_net k) (takes_net kind) e in
        or_right (is_source kind && S || takes_d kind && D) _ (and_join (takes_net kind) N parts.1 (net_has on k h parts.0))

    one : ((is_source k && is_source kind) ≡ true) ⊎ ((takes_d k && takes_d kind || takes_net k && takes_net kind) ≡ true) → ((is_source kind && S || takes_d kind && D) || takes_net kind && N) ≡ true
    one (inl e) =
        let parts = and_split (is_source k) (is_source kind) e in
        or_left (is_source kind && S || takes_d kind && D) _ (or_left (is_source kind && S) _ (and_join (is_source kind) S parts.1 (source_has on k h parts.0)))
    one (inr e) = two (or_split (takes_d k && takes_d kind) _ e)

-- a cell that meets what is on its net is not apart from the cells before it
pub meeting : (cells : List Cell) (n : ℕ) (c : Cell) (on : OnNet) → on ≡ on_net (take n cells) c.net → meets on c.kind ≡ true → IsApartIn cells n c → ⊥
unfolding MeetsOne
meeting cells n c on is met apart =
    let one = meets_one on c.kind met in
    let standing : has (on_net (take n cells) c.net) one.0 ≡ true = ap (λ o. has o one.0) (sym is) ∙ one.1 in
    let there = has_cell (take n cells) c.net one.0 standing in
    let place = place_of (take n cells) there.cell there.stands in
    let front = in_front_of n cells place.0 there.cell place.1 in
    let not_met = apart place.0 there.cell front.0 front.1 there.on in
    let is_met : meet there.cell.kind c.kind ≡ true = ap (λ k. meet k c.kind) there.kind ∙ one.2 in
    absurd (cc (not_met, is_met))

pub not_meeting : (cells : List Cell) (n : ℕ) (c : Cell) (on : OnNet) → on ≡ on_net (take n cells) c.net → meets on c.kind ≡ false → IsApartIn cells n c
not_meeting cells n c on is none j d less at same = go (meet d.kind c.kind) refl
  where
    go : (b : Bool) → meet d.kind c.kind ≡ b → meet d.kind c.kind ≡ false
    go false e = e
    go true e =
        let stands = contains_at (take n cells) j d (front_has n cells j d less at) in
        let on_it : has on d.kind ≡ true = ap (λ o. has o d.kind) is ∙ cell_has (take n cells) c.net d.kind (record { cell = d; stands = stands; on = same; kind = refl }) in
        let met = meets_of on d.kind c.kind on_it e in
        absurd (cc (met, none))

-- the table with one cell more
pub row_after :
    (cells : List Cell) (n : ℕ) (c : Cell) (table : List OnNet) (nets at : ℕ) (kind : Kind) (on : OnNet) → slice_get cells n ≡ Some c → at ≡ c.net → kind ≡ c.kind → length table ≡ nets → c.net < nets
    → ((net : ℕ) → net < nets → get_or table net blank ≡ on_net (take n cells) net) → on ≡ with_kind (get_or table at blank) kind
    → (net : ℕ) → net < nets → get_or (slice_set table at on) net blank ≡ on_net (take (n + 1) cells) net
row_after cells n c table nets at kind on stands at_is kind_is long within rows is net less = go (c.net == net) refl
  where
    front : on_net (take (n + 1) cells) net ≡ noted net (on_net (take n cells) net) c
    front = grind (arith, common_steps, gets, stands)

    go : (b : Bool) → (c.net == net) ≡ b → get_or (slice_set table at on) net blank ≡ on_net (take (n + 1) cells) net
    go true e =
        let same : c.net ≡ net = grind (arith, nat_tests, e) in
        let here : at ≡ net = at_is ∙ same in
        let read : get_or (slice_set table at on) net blank ≡ on = grind (arith, common_steps, here, long, less) in
        let row = rows net less in
        let old : get_or table at blank ≡ on_net (take n cells) net = ap (λ k. get_or table k blank) here ∙ row in
        let mine : on ≡ with_kind (on_net (take n cells) net) c.kind = is ∙ ap (λ o. with_kind o kind) old ∙ ap (with_kind (on_net (take n cells) net)) kind_is in
        let end : noted net (on_net (take n cells) net) c ≡ with_kind (on_net (take n cells) net) c.kind = ap (λ b. cond b (with_kind (on_net (take n cells) net) c.kind) (on_net (take n cells) net)) e in
        read ∙ mine ∙ sym end ∙ sym front
    go false e =
        let other : at ≢ net = λ same. absurd (grind (arith, nat_tests, e, same, at_is)) in
        let read : get_or (slice_set table at on) net blank ≡ get_or table net blank = grind (arith, common_steps, other) in
        let end : noted net (on_net (take n cells) net) c ≡ on_net (take n cells) net = ap (λ b. cond b (with_kind (on_net (take n cells) net) c.kind) (on_net (take n cells) net)) e in
        read ∙ rows net less ∙ sym end ∙ sym front
