mod AbleLaws
mod CommitLaws
mod RefusedLaws
mod ServedLaws
