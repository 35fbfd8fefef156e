-- When netlists agree net by net, one mirrors the other.
use Rattle.std.proofs.Common.{◌≡◌, ℕ, ◌<◌, length, refl, subst, ◌∙◌}
use Rattle.bb_base.proofs.Lists.{get_some}
use Rattle.bb_base.specs.Named.{Named, IsNamed}
use Rattle.bb_net.specs.Sites.{Site, site_of, sited}
use Rattle.bb_normal.specs.Mirrors.{Mirrors}
use Rattle.bb_alike.specs.Alike.{Feeding, Through, Held, Feeds, IsFedAlike, AgreesWith}
use Rattle.bb_alike.proofs.FeedLemmas.{fed_site}
use Rattle.bb_audit.proofs.FrontLemmas.{clock_site, inputs_same, outputs_same}

module _ (w b : Named) (hw : IsNamed w) (hb : IsNamed b) (agrees : AgreesWith w b) where
  -- each site with a driver in either is one of a net of w, so that both have the same driver there
  at_site : (site : Site) (m : ℕ) → m < length w.names → site_of w m ≡ site → IsFedAlike w b site
  at_site site m less is = let there = get_some w.names m less in subst (IsFedAlike w b) is (agrees.nets m there.0 there.1)

  from_b : (site : Site) (e : Feeding) → Feeds (sited b).netlist site e → Feeds (sited w).netlist site e
  from_b site e fb =
      let there = fed_site b hb site e fb in
      let here = agrees.none_more there.0 there.1 in
      (at_site site here.0 here.1 (here.2 ∙ there.2) e).0 fb

  from_w : (site : Site) (e : Feeding) → Feeds (sited w).netlist site e → Feeds (sited b).netlist site e
  from_w site e fw = let here = fed_site w hw site e fw in (at_site site here.0 here.1 here.2 e).1 fw

  pub mirrors : Mirrors (sited w) b
  mirrors = record {
    module_name = agrees.front.module_name;
    ports = agrees.front.ports;
    clock = clock_site w b hw hb agrees.front.ports agrees.front.clock;
    inputs = inputs_same w b hw hb agrees.front;
    outputs = outputs_same w b hw hb agrees.front;
    gates = λ g. (λ c. (from_b g.out (Through g) (c, refl)).0, λ c. (from_w g.out (Through g) (c, refl)).0);
    flops = λ f. (λ c. (from_b f.q (Held f) (c, refl)).0, λ c. (from_w f.q (Held f) (c, refl)).0);
  }
