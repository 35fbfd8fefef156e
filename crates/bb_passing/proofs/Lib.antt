mod Places
mod FewLeaves
mod Formed
mod Listed
mod Passed
