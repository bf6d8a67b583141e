pub mod Applied
pub mod StepsInProgram
pub mod TablesInProgram
pub mod StepEdges
pub mod Views
pub mod Rising
pub mod KeysInProgram
