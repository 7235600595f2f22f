mod ReadLaws
mod StoreLaws
mod MomentLaws
mod WriteLaws
mod TurnLaws
mod StartLaws
mod MakeLaws
mod MailLaws
mod PassLaws
pub mod CutLaws
pub mod NeedLemmas
