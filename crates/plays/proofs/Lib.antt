pub mod Script
pub mod Playing
pub mod Commit_shared
pub mod Crash_shared
pub mod Forced_shared
pub mod Links_shared
mod The_order
mod Single_turns
mod Commit_1
mod Commit_2
mod Crash_1
mod Crash_2
mod Crash_3
mod Crash_4
mod Crash_5
mod Forced_1
mod In_doubt
mod Links_1
mod Links_2
mod One_node
mod Recovery
mod Sql
mod Trees
