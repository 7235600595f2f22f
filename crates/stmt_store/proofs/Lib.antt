mod ChangeLaws
pub mod PastLaws
