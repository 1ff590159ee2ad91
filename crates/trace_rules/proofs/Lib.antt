pub mod TraceScenes
pub mod TraceExamples
pub mod PingExamples
pub mod WireExamples
pub mod WriterExamples
