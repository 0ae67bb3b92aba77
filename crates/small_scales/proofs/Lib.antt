mod VoxelSteps
