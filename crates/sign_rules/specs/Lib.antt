pub mod Signs
pub mod Rule
pub mod Rules
pub mod RuleIndex
pub mod ConsistencyLaws
pub mod Laws
