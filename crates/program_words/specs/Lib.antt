pub mod ProgramWords
pub mod Views
pub mod Parser
