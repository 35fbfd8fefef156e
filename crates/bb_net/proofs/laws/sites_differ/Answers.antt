use Rattle.bb_net.proofs.SiteLemmas.{net_by_site, net_by_text}
use Rattle.bb_net.proofs.laws.sites_differ.Goals as goal

pub returns-clause-sites : goal.returns-clause-sites
returns-clause-sites c = λ n net other is low high same. net_by_site n is net other low high same

pub returns-clause-texts : goal.returns-clause-texts
returns-clause-texts c = λ n net other is low high same. net_by_text n is net other low high same
