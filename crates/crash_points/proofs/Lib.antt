pub mod CommentLemmas
