pub mod Asks
pub mod PlanExamples
pub mod StopExamples
pub mod PlanLaws
pub mod WholePlans
pub mod AskExamples
